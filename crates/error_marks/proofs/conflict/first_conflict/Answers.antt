use Rattle.error_marks.proofs.Common.{◌<◌, pos, length, arith, Mark}
use Rattle.error_marks.proofs.conflict.first_conflict.Goals as goal

pub unreachable-requires : goal.unreachable-requires
unreachable-requires c =
    let lows = c.args.lows.now in
    let number = c.in_ok-number.number in
    let front = c.in_ok-number.ensures in
    let least : Mark = record { place = pos 0; error = pos 0 } in
    let other = c.if-number-lows.false in
    let below : number < length lows = omega (arith, front.within) in
    front.next below least c.in-None.ensures
