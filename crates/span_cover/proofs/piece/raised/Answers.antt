use Rattle.span_cover.proofs.Common.{arith, ℤ, ap, unsigned_abs, ints, widening, moved_high}
use Rattle.span_cover.proofs.PieceDistance.{farthest-kept}
use Rattle.span_cover.proofs.piece.raised.Goals as goal

pub returns-clause-value : goal.returns-clause-value
unfolding moved_high
returns-clause-value c =
    let s = c.args.sample.now in
    let far =
    farthest-kept s.high_from s.high_to c.args.p c.args.q c.greatest_distance-distance.result
    c.requires.sample.high_from c.requires.sample.high_to c.requires.piece
    (record { sfits = c.greatest_distance-distance.type_inv }) c.greatest_distance-distance.ensures.value in
    omega (arith, ints, c.widen.ensures.exact, ap (λ (z : ℤ). widening c.args.drift_ppb (unsigned_abs z)) far)
