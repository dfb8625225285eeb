use Rattle.sample_interval.proofs.Common.{◌-◌, ◌*◌, arith, widening, billion}
use Rattle.sample_interval.proofs.LeastWidening.{HaveWidenings, IsWidening-one_number}
use Rattle.sample_interval.proofs.laws.widening_is_one_number.Goals as goal

is : (c : goal.After-ratios_are_rounded_as_little_as_can_be) → HaveWidenings
unfolding widening
is c ppb distance h =
    c.ratios_are_rounded_as_little_as_can_be.ensures.up (ppb * distance) (billion - ppb) (omega arith)

pub returns-clause-is : goal.returns-clause-is
returns-clause-is c = is c

pub returns-clause-one : goal.returns-clause-one
returns-clause-one c =
    λ ppb distance w h widens. IsWidening-one_number ppb distance w _ widens (is c ppb distance h)
