use Rattle.fault_words.proofs.Common.{◌∙◌, ap, sym, flat_map, YieldsList-from_chars, map-id, YieldsList-end, filling, known_data}
use Rattle.fault_words.proofs.remedy.filled.Goals as goal

pub returns : goal.returns
returns c =
    let t = YieldsList-end (YieldsList-from_chars c.args.remedy.now c.utf8.remedy cc) c.loop-c.yielded _
    c.loop-c.yielded_by _ _ c.in-None.is c.next.ensures.steps in
    c.loop-c.invariant ∙ ap (flat_map (filling (known_data c.args.known.now))) (sym (map-id c.loop-c.yielded) ∙ t.0)
