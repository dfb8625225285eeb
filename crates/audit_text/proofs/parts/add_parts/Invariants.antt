use Rattle.audit_text.proofs.Common.{◌≡◌, ◌++◌, take, flat_map, data_of, part_row}
use Rattle.audit_text.proofs.parts.add_parts.Given as goal

abbrev pub invariant-loop-part : goal.invariant-loop-part
invariant-loop-part l =
    l.text.items ≡ l.initial.text.items ++ flat_map (part_row l.style (data_of l.claim)) (take l.part-index l.parts)
