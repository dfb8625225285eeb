use Rattle.true_time.proofs.TrueTime.{true_time_held}
use Rattle.true_time.proofs.laws.true_time_lies_between.Goals as goal

pub returns : goal.returns
returns c = record { between = true_time_held c.best_hulls_hold_the_error.ensures }
