use Rattle.feasibility.proofs.Common.{ap, sym, subst, ◌∙◌, earlier, IsFirstIfAny}
use Rattle.feasibility.proofs.FirstPairs.{first_of_own}
use Rattle.feasibility.proofs.numbered_marks.NumberedMarks.own_contradiction.Goals as goal

pub returns : goal.returns
returns c = λ claim xs a rate of_a.
    let apart = c.in_ok-apart.apart in
    subst (IsFirstIfAny claim xs a a) (sym (c.earlier.ensures ∙ ap (earlier apart) c.twice.ensures))
    (first_of_own claim xs a c.args.drift_ppb rate c.args.self.now apart of_a c.in_ok-apart.ensures)
