use Rattle.sample_interval.proofs.Common.{arith, refl, ints}
use Rattle.sample_interval.proofs.ExchangeSample.{same_sample}
use Rattle.sample_interval.proofs.laws.larger_distance_widens.Goals as goal

pub returns : goal.returns
returns c = λ x allowance more. same_sample (omega (arith, ints)) refl refl (omega (arith, ints)) refl refl
