use Rattle.audit.proofs.Common.{evidence_data}
use Rattle.audit.specs.ByCovers.{AreHeld}
use Rattle.audit.proofs.question.readings_by_covers.hulls_in_place.Given as goal

abbrev pub invariant-loop-number : goal.invariant-loop-number
invariant-loop-number l = AreHeld (evidence_data l.evidence) l.hulls.items
