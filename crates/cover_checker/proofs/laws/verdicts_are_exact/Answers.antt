use Rattle.cover_checker.proofs.Acceptance.{Laws}
use Rattle.cover_checker.proofs.Verdicts.{settled}
use Rattle.cover_checker.proofs.VerdictTest.{is_that}
use Rattle.cover_checker.proofs.laws.verdicts_are_exact.Goals as goal

pub returns : goal.returns
returns c claim xs certificate verdict lawful each is =
    let laws : Laws = record {
      hull = c.every_list_has_a_hull.ensures;
      one = c.hull_is_one_answer.ensures;
    } in
    let exact = settled laws claim xs certificate verdict is in
    record {
      is = is;
      exact = is_that claim xs certificate lawful each laws verdict is;
      accepted = exact;
      by_covers = λ e. c.covers_are_traceable.ensures.named claim xs certificate lawful each (exact.0 e);
      yes = λ e. c.covers_are_traceable.ensures.all claim xs certificate lawful each (exact.0 e);
    }
