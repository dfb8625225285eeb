-- Courses that come near to a point that all exchanges outside some groups hold.
use Rattle.std.proofs.Common.{◌≡◌, ℕ, ℤ, pos, ◌+ℤ◌, ◌-ℤ◌, ◌*ℤ◌, ◌<ℤ◌, ◌≤ℤ◌, Bool, List, [], ◌∷◌, length, refl, arith}
use Rattle.std.proofs.lemmas.Int.{clamps, ints}
use Rattle.std.proofs.lemmas.List.Elements.{All-cons, All-nil, All-weaker}
use Rattle.std.specs.Int.{int_min}
use Rattle.std.specs.Prelude.{All, slice_index}
use Rattle.claim_file.specs.Claim.{IsLawful}
use Rattle.error_marks.proofs.Compatibility.{compatible_in_order}
use Rattle.error_marks.specs.Mark.{AreCompatible}
use Rattle.error_marks.specs.declared.mark.Mark.{Mark}
use Rattle.feasibility.proofs.Covers.{agree_outside, few_by_cover}
use Rattle.feasibility.proofs.LowestCourse.{Needs, lowest_fits}
use Rattle.feasibility.proofs.LowestError.{all_at_most, first_at_most}
use Rattle.feasibility.proofs.TrueExchanges.{all_marks}
use Rattle.feasibility.specs.LowestCourse.{error_left, fineness_of, lowest_course, lowest_error}
use Rattle.feasibility.specs.TrueMarks.{high_marks, low_marks}
use Rattle.lemma_base.proofs.Int.{≤ℤ-from_equal, ≤ℤ_trans}
use Rattle.cover_finder.specs.Common.{ClaimData, Course, Exchange, IsLawful as IsLawfulExchange, Stretch, error_of, high_mark, low_mark}
use Rattle.cover_finder.specs.Hull.{IsObservedFirst, change_over}
use Rattle.cover_finder.proofs.CaseEnds.{HoldOutside}
use Rattle.cover_finder.proofs.NearMarks.{left_near, low_over_below, mark_near, near_agrees, parts_near}

-- a number that is no greater than another, nor than the error of any of some marks
pub record IsBeneath (point : ℤ) (marks : List Mark) : Type 0 where
  pub error : ℤ
  pub below : error ≤ℤ point
  pub below_each : All (λ mark. error ≤ℤ mark.error) marks

pub beneath : (point : ℤ) (marks : List Mark) → IsBeneath point marks
beneath point [] = record {
  error = point;
  below = omega (arith, ints);
  below_each = All-nil (λ mark. point ≤ℤ mark.error);
}
beneath point (mark ∷ marks) =
    let rest = beneath point marks in
    let least = int_min rest.error mark.error in
    record {
      error = least;
      below = let below = rest.below in omega (arith, ints, clamps);
      below_each = All-cons (λ m. least ≤ℤ m.error) mark marks (omega (arith, ints, clamps))
          (All-weaker (λ m. rest.error ≤ℤ m.error) (λ m. least ≤ℤ m.error)
          (λ m above. omega (arith, ints, clamps)) marks rest.below_each);
    }

-- what is less than a number is at most one less
at_most_less : (a b : ℤ) → a <ℤ b → a ≤ℤ (b -ℤ pos 1)
at_most_less a b less = omega (arith, ints)

less_than : (a b : ℤ) → a ≤ℤ (b -ℤ pos 1) → a <ℤ b
less_than a b most = omega (arith, ints)

own_place : (ppb : ℕ) (mark : Mark) → (mark.error *ℤ pos (fineness_of ppb)) ≤ℤ error_left ppb mark.place mark
own_place ppb mark =
    let is : mark.error *ℤ pos (fineness_of ppb) ≡ error_left ppb mark.place mark = grind arith in
    ≤ℤ-from_equal _ _ is

error_is : (reading error : ℤ) → reading -ℤ (reading -ℤ error) ≡ error
error_is reading error = omega (arith, ints)

module _ (claim : ClaimData) (xs : List Exchange) (stretch : Stretch) (lawful : IsLawful claim)
    (each : All (IsLawfulExchange (length claim.servers)) xs) (forth : stretch.begin ≤ℤ stretch.end) (point : ℤ)
    (is_in : ℕ → Bool) (hold : HoldOutside claim xs stretch point is_in) where
  -- all servers of these groups are false
  abbrev false_in : ℕ → Bool
  false_in server = is_in (slice_index claim.groups server)

  abbrev lows : List Mark
  lows = low_marks claim.reading false_in xs

  abbrev highs : List Mark
  highs = high_marks claim.reading false_in xs

  abbrev course : Mark → Course
  course first = lowest_course claim false_in first stretch.begin xs

  fits : (first : Mark) → All (AreCompatible claim.drift_ppb first) highs
      → IsObservedFirst claim xs stretch (course first)
  fits first agrees =
      let needs : Needs claim false_in first xs =
      record { lawful = lawful; each = each; agree = agree_outside claim xs is_in hold.cover; first_agrees = agrees } in
      record {
        fits = (lowest_fits needs stretch.begin (omega (arith, few_by_cover claim is_in, hold.few))).fits;
        first = refl;
      }

  -- what low marks leave where the stretch begins is near to the point
  left : All (λ mark. error_left claim.drift_ppb stretch.begin mark
      ≤ℤ (parts_near claim.drift_ppb stretch point -ℤ pos 1))
      lows
  left =
      all_marks false_in xs
      (λ mark. error_left claim.drift_ppb stretch.begin mark
      ≤ℤ (parts_near claim.drift_ppb stretch point -ℤ pos 1))
      (low_mark claim.reading)
      (λ k x at true'. at_most_less _ _
      (left_near claim.drift_ppb lawful.drift_in_range stretch (low_mark claim.reading x) forth point
      (hold.low k x at true')))

  module _ (beneath_all : IsBeneath point highs) where
    lowest_first : Mark
    lowest_first = record { place = stretch.begin; error = beneath_all.error }

    lowest_agrees : All (AreCompatible claim.drift_ppb lowest_first) highs
    unfolding lowest_first
    lowest_agrees =
        All-weaker (λ mark. beneath_all.error ≤ℤ mark.error) (AreCompatible claim.drift_ppb lowest_first)
        (λ mark above. compatible_in_order claim.drift_ppb lowest_first mark above) highs beneath_all.below_each

    lowest_left : error_left claim.drift_ppb stretch.begin lowest_first
        ≤ℤ (parts_near claim.drift_ppb stretch point -ℤ pos 1)
    unfolding lowest_first
    lowest_left = at_most_less _ _
        (left_near claim.drift_ppb lawful.drift_in_range stretch lowest_first forth point
        (≤ℤ_trans _ _ _ (low_over_below claim.drift_ppb lawful.drift_in_range stretch lowest_first forth)
        beneath_all.below))

    lowest_is_near : error_of (course lowest_first).observation
        <ℤ parts_near claim.drift_ppb stretch point
    lowest_is_near =
        let most = all_at_most (error_left claim.drift_ppb stretch.begin)
        (error_left claim.drift_ppb stretch.begin lowest_first) _ lows lowest_left left in
        rw (error_is (stretch.begin *ℤ pos (fineness_of claim.drift_ppb))
        (lowest_error claim.drift_ppb lowest_first lows stretch.begin))
        (less_than _ _ most)

  -- some course comes near to the point from above
  pub near_low : (course : Course) × IsObservedFirst claim xs stretch course × (error_of course.observation
      <ℤ (((point +ℤ pos 1) +ℤ change_over claim.drift_ppb stretch) *ℤ pos course.fineness))
  near_low =
      let all = beneath point highs in
      (course (lowest_first all), fits (lowest_first all) (lowest_agrees all), lowest_is_near all)

  -- and some course from below
  abbrev highest_first : Mark
  highest_first = mark_near claim.drift_ppb stretch point

  highest_agrees : All (AreCompatible claim.drift_ppb highest_first) highs
  highest_agrees =
      all_marks false_in xs (AreCompatible claim.drift_ppb highest_first) (high_mark claim.reading)
      (λ k x at true'. near_agrees claim.drift_ppb lawful.drift_in_range stretch (high_mark claim.reading x) forth
      point (hold.high k x at true'))

  pub near_high : (course : Course) × IsObservedFirst claim xs stretch course
      × ((((point -ℤ pos 1) -ℤ change_over claim.drift_ppb stretch) *ℤ pos course.fineness)
      ≤ℤ error_of course.observation)
  near_high =
      let least = first_at_most (error_left claim.drift_ppb stretch.begin)
      (error_left claim.drift_ppb stretch.begin highest_first) lows in (
        course highest_first,
        fits highest_first highest_agrees,
        rw (error_is (stretch.begin *ℤ pos (fineness_of claim.drift_ppb))
            (lowest_error claim.drift_ppb highest_first lows stretch.begin))
            (≤ℤ_trans _ _ _ (own_place claim.drift_ppb highest_first) least),
      )
