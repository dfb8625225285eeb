-- The hull of a case isn't empty: with all servers of a minimal cover's groups false some course fits, and its error
-- lies in the hull.
use Rattle.std.proofs.Common.{ℕ, ◌≤◌, pos, ◌≤ℤ◌, Bool, ◌&&◌, List, length, arith}
use Rattle.std.proofs.lemmas.Bool.Decides.{nat_tests}
use Rattle.std.proofs.lemmas.List.Elements.{All-weaker}
use Rattle.std.proofs.lemmas.List.Folds.{Any-from_list_any}
use Rattle.std.specs.Int.Signed.{≤ℤ_refl}
use Rattle.std.specs.Prelude.{All, slice_index, ◌==◌}
use Rattle.checker.specs.Groups.{false_group_count}
use Rattle.claim_file.specs.Claim.{IsLawful}
use Rattle.error_marks.proofs.Compatibility.{compatible_in_order}
use Rattle.error_marks.specs.Mark.{AreCompatible}
use Rattle.error_marks.specs.declared.mark.Mark.{Mark}
use Rattle.feasibility.proofs.Covers.{agree_outside, false_groups_cover, few_by_cover, listed_in_groups}
use Rattle.feasibility.proofs.LowestCourse.{Needs, lowest_fits}
use Rattle.feasibility.specs.Cover.{HoldsNoLess, IsCover}
use Rattle.feasibility.specs.LowestCourse.{lowest_course}
use Rattle.feasibility.specs.Members.{LieWithin}
use Rattle.feasibility.specs.TrueMarks.{high_marks}
use Rattle.intersection.specs.Fineness.{times_le}
use Rattle.span_cover.specs.Group.{numbers_below}
use Rattle.cover_finder.specs.Common.{ClaimData, Course, Empty, Exchange, Fits, HasFalse, IsLawful as IsLawfulExchange, IsObservedIn, Stretch, holds_false, size_of}
use Rattle.cover_finder.specs.Hull.{IsHullWithout}
use Rattle.cover_finder.proofs.HeldErrors.{HullsHold, is_hull}
use Rattle.cover_finder.proofs.NearCourses.{IsBeneath, beneath}

module _ (claim : ClaimData) (xs : List Exchange) (stretch : Stretch) (lawful : IsLawful claim)
    (each : All (IsLawfulExchange (length claim.servers)) xs) (forth : stretch.begin ≤ℤ stretch.end)
    (out : ℕ → Bool) (cover : IsCover claim xs out) (minimal : HoldsNoLess claim xs out)
    (few : size_of claim out ≤ claim.false_max) where
  -- all servers of the cover's groups are false
  abbrev false_in : ℕ → Bool
  false_in server = out (slice_index claim.groups server)

  abbrev highs : List Mark
  highs = high_marks claim.reading false_in xs

  -- an error that is low enough for the high marks of the others
  under : IsBeneath (pos 0) highs
  under = beneath (pos 0) highs

  abbrev first : Mark
  first = record { place = stretch.begin; error = under.error }

  abbrev course : Course
  course = lowest_course claim false_in first stretch.begin xs

  first_agrees : All (AreCompatible claim.drift_ppb first) highs
  first_agrees =
      All-weaker (λ mark. under.error ≤ℤ mark.error) (AreCompatible claim.drift_ppb first)
      (λ mark above. compatible_in_order claim.drift_ppb first mark above) highs under.below_each

  needs : Needs claim false_in first xs
  needs = record {
    lawful = lawful;
    each = each;
    agree = agree_outside claim xs out cover;
    first_agrees = first_agrees;
  }

  few_false : false_group_count claim.groups false_in ≤ claim.false_max
  few_false = omega (arith, few_by_cover claim out)

  fits : Fits claim xs course
  fits = (lowest_fits needs stretch.begin few_false).fits

  observed : IsObservedIn course stretch.begin stretch.end
  observed = (≤ℤ_refl _, times_le stretch.begin stretch.end course.fineness forth)

  -- a group that holds a false server is one of the cover
  false_within : LieWithin (holds_false claim.groups false_in) out
  false_within group false' =
      let found = Any-from_list_any (λ server. (slice_index claim.groups server == group) && false_in server)
      (numbers_below (length claim.groups)) false' in
      grind (arith, nat_tests, found.4)

  -- these are a cover too, and so each group of the cover holds one
  has_false : HasFalse claim out course
  has_false =
      minimal (holds_false claim.groups false_in)
      (false_groups_cover claim lawful.drift_in_range xs (listed_in_groups claim xs lawful each) course fits)
      false_within

  pub none_is_empty : HullsHold → IsHullWithout claim xs stretch out Empty → ⊥
  none_is_empty hold without =
      hold claim xs out stretch without.parts Empty lawful each without.whole.said
      (is_hull claim xs stretch out Empty without) course fits has_false observed
