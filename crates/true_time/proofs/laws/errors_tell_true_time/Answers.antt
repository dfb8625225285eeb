use Rattle.true_time.proofs.TrueTime.{then}
use Rattle.true_time.proofs.laws.errors_tell_true_time.Goals as goal

pub returns : goal.returns
returns c = record { told = λ course r hull shown held. then course r shown hull held }
