use Rattle.finder.proofs.Common.{◌∙◌, ℤ, sym, ap, arith, true≢false, to_z-of_z, w128, high_mark, low_mark, Mark, w128_keeps}
use Rattle.finder.proofs.ErrorRoom.{no_room, room_is}
use Rattle.finder.proofs.room.room_of.Goals as goal

pub returns-then-not-is_possible-clause-room : goal.returns-then-not-is_possible-clause-room
returns-then-not-is_possible-clause-room c error near =
    let possible = rw (to_z-of_z w128 c.args.allowance c.ranges.allowance) at c.is_possible.ensures in
    no_room c.args.allowance error c.args.exchange.now
    (λ is. true≢false (sym (possible.1 is) ∙ c.if-not-is_possible.true)) near

pub returns-clause-room : goal.returns-clause-room
returns-clause-room c error near =
    let x = c.args.exchange.now in
    let allowance = to_z-of_z w128 c.args.allowance c.ranges.allowance in
    let low = w128_keeps c.low_mark.result.error (omega (arith, c.low_mark.ensures.range.error))
    ∙ ap (λ (m : Mark). m.error) (c.low_mark.ensures.exact ∙ ap (λ (a : ℤ). low_mark a x) allowance) in
    let high = w128_keeps c.high_mark.result.error (omega (arith, c.high_mark.ensures.range.error))
    ∙ ap (λ (m : Mark). m.error) (c.high_mark.ensures.exact ∙ ap (λ (a : ℤ). high_mark a x) allowance) in
    let possible = rw allowance at c.is_possible.ensures in
    rw (low, high) (room_is c.args.allowance error x (possible.0 c.if-not-is_possible.false))
