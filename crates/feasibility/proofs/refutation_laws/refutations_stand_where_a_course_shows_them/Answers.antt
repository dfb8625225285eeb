use Rattle.feasibility.proofs.Converse.{refuted_where_shown}
use Rattle.feasibility.proofs.refutation_laws.refutations_stand_where_a_course_shows_them.Goals as goal

pub returns : goal.returns
returns c claim xs refutation course lawful against shows =
    refuted_where_shown claim xs refutation course lawful.drift_in_range against shows
