use Rattle.sample_interval.proofs.Common.{arith, ints}
use Rattle.sample_interval.proofs.ExchangeSample.{same_sample}
use Rattle.sample_interval.proofs.laws.wider_allowance_widens.Goals as goal

pub returns : goal.returns
returns c =
    λ x allowance more. same_sample (omega (arith, ints)) (omega (arith, ints)) (omega (arith, ints))
    (omega (arith, ints)) (omega (arith, ints)) (omega (arith, ints))
