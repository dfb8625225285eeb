use Rattle.fault_words.proofs.Common.{◌∙◌, ap, subst, sym, take, flat_map, chars, YieldsList-from_chars, YieldsList-from_take, map-id, YieldsList-end, IsQuiet, shown_char}
use Rattle.fault_words.proofs.Quiet.{shown_is_quiet}
use Rattle.fault_words.proofs.quote.front.Goals as goal

pub returns : goal.returns
returns c =
    let y = YieldsList-from_take 40 (YieldsList-from_chars c.args.text.now c.utf8.text cc) cc in
    let t = YieldsList-end y c.loop-c.yielded _ c.loop-c.yielded_by _ _ c.in-None.is c.next.ensures.steps in
    let escaped = c.loop-c.invariant ∙ ap (flat_map shown_char) (sym (map-id c.loop-c.yielded) ∙ t.0) in
    record { escaped = escaped; quiet = subst IsQuiet (sym escaped) (shown_is_quiet (take 40 (chars c.args.text.now))) }
