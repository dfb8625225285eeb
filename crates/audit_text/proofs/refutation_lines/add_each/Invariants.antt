use Rattle.audit_text.proofs.Common.{◌≡◌, ◌++◌, take, flat_map, data_of, liar_line}
use Rattle.audit_text.proofs.refutation_lines.add_each.Given as goal

abbrev pub invariant-loop-liar : goal.invariant-loop-liar
invariant-loop-liar l =
    l.text.items ≡ l.initial.text.items ++ flat_map (liar_line (data_of l.claim)) (take l.liar-index l.liars)
