use Rattle.std.proofs.Common.{length}
use Rattle.checker.proofs.RefutationCourse.{has_course}
use Rattle.checker.proofs.refutation_laws.accepted_refutations_have_a_course.Goals as goal

pub returns : goal.returns
returns c claim xs refutation lawful each agree refuted =
    has_course claim xs refutation lawful.reading_not_negative (length claim.servers) each refuted agree
