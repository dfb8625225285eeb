use Rattle.audit.specs.ByCovers.{AreHeld}
use Rattle.audit.specs.Evidence.{EvidenceData}
use Rattle.audit.proofs.question.readings_by_covers.no_hulls.Given as goal

abbrev pub invariant-loop : goal.invariant-loop
invariant-loop l = (e : EvidenceData) → AreHeld e l.hulls.items
