use Rattle.checker.proofs.Common.{sym, ap, ◌∙◌, cond-true, cond-false, to_z-of_z, w128, is_inside}
use Rattle.checker.proofs.piece.hull_fault.Goals as goal

pub returns-in-Bounded : goal.returns-in-Bounded
returns-in-Bounded c =
    let kept = ap (λ bound. is_inside bound c.args.hull) (to_z-of_z w128 c.args.bound c.ranges.bound) in
    let inside = sym (c.is_inside.ensures ∙ kept) ∙ c.if-is_inside.true in
    rw c.in-Bounded.is (sym (cond-true _ _ _ (rw c.in-Bounded.is at inside)))

pub returns-in-Bounded-2 : goal.returns-in-Bounded-2
returns-in-Bounded-2 c =
    let kept = ap (λ bound. is_inside bound c.args.hull) (to_z-of_z w128 c.args.bound c.ranges.bound) in
    let outside = sym (c.is_inside.ensures ∙ kept) ∙ c.if-is_inside.false in
    rw c.in-Bounded-2.is (sym (cond-false _ _ _ (rw c.in-Bounded-2.is at outside)))
