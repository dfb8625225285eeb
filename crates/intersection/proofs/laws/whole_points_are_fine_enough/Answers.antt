use Rattle.intersection.proofs.Fractions.{floor_admissible, ceiling_admissible}
use Rattle.intersection.proofs.laws.whole_points_are_fine_enough.Goals as goal

pub returns-clause-admissible_floor : goal.returns-clause-admissible_floor
returns-clause-admissible_floor c = floor_admissible

pub returns-clause-admissible_ceiling : goal.returns-clause-admissible_ceiling
returns-clause-admissible_ceiling c = ceiling_admissible
