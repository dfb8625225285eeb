use Rattle.sample_interval.proofs.Common.{arith, ◌≡◌, ◌-ℤ◌, ◌∙◌, ints, w128_keeps_difference}
use Rattle.sample_interval.proofs.OnWire.{delay_of-is}
use Rattle.sample_interval.proofs.on_wire.round_trip.Goals as goal

pub overflow_sub-result : goal.overflow_sub-result
overflow_sub-result c = omega (arith, ints)

pub returns : goal.returns
returns c =
    let difference : c.elapsed.result -ℤ c.elapsed-2.result ≡ (c.args.t4 -ℤ c.args.t1) -ℤ (c.args.t3 -ℤ c.args.t2) =
    omega (arith, ints) in
    delay_of-is _ c.args.t1 c.args.t2 c.args.t3 c.args.t4
    (w128_keeps_difference c.elapsed.result c.elapsed-2.result (omega arith) (omega arith) ∙
    difference)
