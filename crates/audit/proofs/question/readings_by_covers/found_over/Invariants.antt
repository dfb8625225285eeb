use Rattle.std.proofs.Common.{take}
use Rattle.audit.proofs.Common.{◌≡◌, All, evidence_data, map, true}
use Rattle.audit.specs.ByCovers.{IsHeldOver, are_of}
use Rattle.audit.specs.Common.{reading_data}
use Rattle.audit.proofs.question.readings_by_covers.found_over.Given as goal

abbrev pub invariant-loop-number : goal.invariant-loop-number
invariant-loop-number l =
    (are_of (map reading_data (take l.number l.readings)) l.found.items ≡ true)
    × All (IsHeldOver (evidence_data l.evidence)) l.found.items
