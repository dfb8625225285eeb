use Rattle.sample_interval.proofs.Common.{arith, ◌≡◌, ◌+ℤ◌, ◌-ℤ◌, ◌∙◌, ints}
use Rattle.sample_interval.proofs.OnWire.{offset_doubled-is}
use Rattle.sample_interval.proofs.NoOverflow.{kept_sum}
use Rattle.sample_interval.proofs.on_wire.doubled_offset.Goals as goal

pub returns-clause-value : goal.returns-clause-value
returns-clause-value c =
    let sum : c.elapsed.result +ℤ c.elapsed-2.result ≡ (c.args.t2 -ℤ c.args.t1) +ℤ (c.args.t3 -ℤ c.args.t4) =
    omega (arith, ints) in
    offset_doubled-is _ c.args.t1 c.args.t2 c.args.t3 c.args.t4
    (kept_sum c.elapsed.result c.elapsed-2.result (omega arith) (omega arith) ∙ sum)
