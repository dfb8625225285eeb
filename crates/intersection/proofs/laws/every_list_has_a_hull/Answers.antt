use Rattle.intersection.proofs.EndPoints.{IsHull-hull_of}
use Rattle.intersection.proofs.laws.every_list_has_a_hull.Goals as goal

pub returns : goal.returns
returns c = IsHull-hull_of
