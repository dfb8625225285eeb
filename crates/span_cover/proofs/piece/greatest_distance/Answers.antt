use Rattle.span_cover.proofs.Common.{arith, ◌^◌, pos, ◌≤ℤ◌, sym, subst, ints, clamps}
use Rattle.span_cover.proofs.PieceDistance.{farthest-bounds}
use Rattle.span_cover.proofs.piece.greatest_distance.Goals as goal

pub returns-clause-value : goal.returns-clause-value
returns-clause-value c = omega (arith, ints, clamps)

pub returns-clause-in_range : goal.returns-clause-in_range
returns-clause-in_range c =
    subst (λ z. z ≤ℤ pos (2 ^ 73)) (sym (returns-clause-value c))
    (farthest-bounds c.args.from c.args.to c.args.p c.args.q c.requires.from c.requires.to c.requires.in_order
    c.requires.piece).1
