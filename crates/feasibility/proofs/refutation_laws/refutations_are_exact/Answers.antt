use Rattle.feasibility.proofs.Converse.{refuted_where_shown}
use Rattle.feasibility.proofs.DriftCourse.{course, shown}
use Rattle.feasibility.proofs.refutation_laws.refutations_are_exact.Goals as goal

pub returns : goal.returns
returns c claim xs refutation lawful each = (
  λ refuted. (
    refuted.against,
    (course claim xs refutation lawful each refuted, shown claim xs refutation lawful each refuted),
  ),
  λ both. refuted_where_shown claim xs refutation both.1.0 lawful.drift_in_range both.0 both.1.1,
)
