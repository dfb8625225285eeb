use Rattle.feasibility.proofs.Common.{sym, subst, IsFirstIfAny}
use Rattle.feasibility.proofs.FirstPairs.{first_of_two}
use Rattle.feasibility.proofs.numbered_marks.NumberedMarks.contradiction_with.Goals as goal

pub returns : goal.returns
returns c = λ claim xs a b rate differ of_a of_b.
    subst (IsFirstIfAny claim xs a b) (sym c.earlier.ensures)
    (first_of_two claim xs c.args.drift_ppb rate a b c.args.self.now c.args.other.now c.in_ok-forth.forth
    c.in_ok-back.back differ of_a of_b c.in_ok-forth.ensures c.in_ok-back.ensures)
