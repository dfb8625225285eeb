use Rattle.true_time.proofs.Before.{order_is_so}
use Rattle.true_time.proofs.laws.orders_are_so.Goals as goal

pub returns : goal.returns
returns c = record { so = order_is_so }
