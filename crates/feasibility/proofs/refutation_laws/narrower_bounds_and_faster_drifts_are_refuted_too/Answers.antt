use Rattle.feasibility.proofs.OwnMark.{refuted_with_more}
use Rattle.feasibility.proofs.refutation_laws.narrower_bounds_and_faster_drifts_are_refuted_too.Goals as goal

pub returns : goal.returns
returns c = refuted_with_more
