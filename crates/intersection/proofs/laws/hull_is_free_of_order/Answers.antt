use Rattle.intersection.proofs.Hulls.{free_of_order}
use Rattle.intersection.proofs.laws.hull_is_free_of_order.Goals as goal

pub returns : goal.returns
returns c = free_of_order
