use Rattle.std.specs.Prelude.{IfSome, Option}
use Rattle.true_time.proofs.Common.{◌≡◌, ◌∙◌, subst, get_or_from_slice_get, data_of, hull_of, reading_data}
use Rattle.reading_time.specs.declared.reading.Reading.{Reading}
use Rattle.true_time.specs.FoundHulls.{widened}
use Rattle.true_time.specs.declared.found_hulls.SmallHull.{SmallHull}
use Rattle.true_time.proofs.PutIntoPlace.{put_into_place}
use Rattle.true_time.proofs.found_hulls.find_hull.Goals as goal

pub returns-then-number-readings : goal.returns-then-number-readings
returns-then-number-readings c samples tabled =
    let claim = data_of c.args.claim.now in
    let readings = c.args.readings.now in
    let number = c.args.number in
    let reading = c.index-readings-number.result in
    let hull = c.hull_over.result in
    let is_hull = λ (r : Reading) (small : SmallHull). widened small ≡ hull_of samples claim (reading_data r) in
    put_into_place is_hull readings c.args.hulls.now (c.requires.hulls samples tabled) number c.of.result
    (λ r at small of_hull. subst (λ (found : Option SmallHull). IfSome found (λ small. widened small ≡ hull)) of_hull
    c.of.ensures
    ∙ subst (λ (p : Reading). hull ≡ hull_of samples claim (reading_data p))
    (c.index-readings-number.is ∙ get_or_from_slice_get readings number r reading at)
    (c.hull_over.ensures samples tabled))
