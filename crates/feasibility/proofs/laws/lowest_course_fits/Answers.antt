use Rattle.feasibility.proofs.LowestCourse.{Needs, lowest_fits, lowest_shares}
use Rattle.feasibility.proofs.laws.lowest_course_fits.Goals as goal

pub returns : goal.returns
returns c = record {
  fits = λ claim is_false first reading xs lawful each agree agrees few.
      let needs : Needs claim is_false first xs =
      record { lawful = lawful; each = each; agree = agree; first_agrees = agrees } in
      lowest_fits needs reading few;
  shares = lowest_shares;
}
