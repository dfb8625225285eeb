use Rattle.sample_interval.proofs.Common.{arith, ints}
use Rattle.sample_interval.proofs.laws.offset_and_delay_give_both_ways.Goals as goal

pub returns-clause-out : goal.returns-clause-out
returns-clause-out c = λ t1 t2 t3 t4. omega (arith, ints)

pub returns-clause-back : goal.returns-clause-back
returns-clause-back c = λ t1 t2 t3 t4. omega (arith, ints)
