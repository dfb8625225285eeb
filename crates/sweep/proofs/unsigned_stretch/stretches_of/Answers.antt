use Rattle.sweep.proofs.Common.{arith, rules, get_or, ℤ, pos, subst, FitsSigned, refl, ints, to_z-of_z, w128, AreStretchesOf}
use Rattle.sweep.proofs.StretchList.{piece_at, piece_here, StretchesSoFar-more}
use Rattle.sweep.proofs.unsigned_stretch.stretches_of.Goals as goal

pub from_origin-requires : goal.from_origin-requires
from_origin-requires c =
    let fits : FitsSigned w128 (get_or c.args.ends.now c.loop-reading.reading-index (pos 0)) = search rules in
    let piece = piece_here c.args.first c.args.ends.now c.loop-reading.reading-index _ c.requires c.ranges.first fits
    c.loop-reading.invariant.begins c.loop-reading-test.true in
    omega (arith, ints, piece.from_zero, piece.in_order, piece.in_range)

pub from_origin-end-requires : goal.from_origin-end-requires
from_origin-end-requires c =
    let fits : FitsSigned w128 (get_or c.args.ends.now c.loop-reading.reading-index (pos 0)) = search rules in
    let piece = piece_here c.args.first c.args.ends.now c.loop-reading.reading-index _ c.requires c.ranges.first fits
    c.loop-reading.invariant.begins c.loop-reading-test.true in
    omega (arith, ints, piece.from_zero, piece.in_order, piece.in_range)

pub loop-reading-preserved : goal.loop-reading-preserved
loop-reading-preserved c =
    let fits : FitsSigned w128 (get_or c.args.ends.now c.loop-reading.reading-index (pos 0)) = search rules in
    let piece = piece_here c.args.first c.args.ends.now c.loop-reading.reading-index _ c.requires c.ranges.first fits
    c.loop-reading.invariant.begins c.loop-reading-test.true in
    rw c.in_ok-push.ensures.items
    (StretchesSoFar-more _ c.args.ends.now c.loop-reading.reading-index _ c.loop-reading.stretches.items
    c.loop-reading.invariant _ _
    (piece_at _ _ c.args.ends.now c.loop-reading.reading-index _ _ refl c.loop-reading.invariant.begins
    c.loop-reading-test.true (to_z-of_z w128 _ fits))
    piece
    (record { begin = c.from_origin.ensures; end = c.from_origin-end.ensures }))

pub returns : goal.returns
returns c =
    let P : ℤ → Type 0 = λ first. AreStretchesOf first c.args.ends.now c.loop-reading.stretches.items in
    let so_far = c.loop-reading.invariant in
    subst P (to_z-of_z w128 c.args.first c.ranges.first) (record {
      as_many = omega (arith, so_far.as_many);
      each = so_far.each;
      lawful = so_far.lawful;
      rise = so_far.rise;
    })
