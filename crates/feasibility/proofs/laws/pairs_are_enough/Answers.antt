use Rattle.feasibility.proofs.Converse.{agree}
use Rattle.feasibility.proofs.Pairs.{agreement_gives_course}
use Rattle.feasibility.proofs.laws.pairs_are_enough.Goals as goal

pub returns : goal.returns
returns c claim is_false xs lawful each few = (
  λ found. agree lawful.drift_in_range found.1 is_false found.2,
  agreement_gives_course claim xs is_false lawful each few,
)
