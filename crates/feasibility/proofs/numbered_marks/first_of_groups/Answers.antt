use Rattle.feasibility.proofs.Common.{ℕ, sym, subst, IfOk-weaker, AreNumberedOf, IsFirstIfAny}
use Rattle.feasibility.proofs.numbered_marks.first_of_groups.Goals as goal

pub returns-then-a-b : goal.returns-then-a-b
returns-then-a-b c =
    let one = c.index-marks-a.result in
    IfOk-weaker c.own_contradiction.result _ _
    (λ found own claim xs rate each.
    subst (λ (k : ℕ). IsFirstIfAny claim xs c.args.a k found) c.if-a-b.true
    (own claim xs c.args.a rate
    (subst (AreNumberedOf claim xs c.args.a) (sym c.index-marks-a.is) (each c.args.a one c.requires.a_within))))
    c.own_contradiction.ensures
