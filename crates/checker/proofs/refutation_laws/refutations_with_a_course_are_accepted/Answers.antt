use Rattle.checker.proofs.RefutationStamp.{refuted_by_course}
use Rattle.checker.proofs.refutation_laws.refutations_with_a_course_are_accepted.Goals as goal

pub returns : goal.returns
returns c claim xs refutation course against shows = refuted_by_course claim xs refutation against course shows
