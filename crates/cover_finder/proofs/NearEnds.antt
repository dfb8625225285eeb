-- The ends of a hull by covers are nearly attained.
use Rattle.std.proofs.Common.{◌≡◌, ℕ, ◌-◌, ◌<◌, ◌≤◌, ℤ, ⊎_elim, Bool, List, Some, length, subst, arith}
use Rattle.std.proofs.lemmas.Option.{slice_get_within}
use Rattle.std.specs.Prelude.{All, slice_get}
use Rattle.claim_file.specs.Claim.{IsLawful}
use Rattle.feasibility.specs.Cover.{IsCover}
use Rattle.intersection.specs.Hull.{IsHull}
use Rattle.lemma_base.proofs.List.{All-slice_get, slice_get-below}
use Rattle.span_cover.specs.Group.{group_intervals}
use Rattle.cover_finder.specs.Common.{Bounded, ClaimData, Empty, Exchange, Groups, Hull, IsLawful as IsLawfulExchange, IsPiece, Stretch, Unbounded, holds, size_of}
use Rattle.cover_finder.specs.Hull.{AreOfCovers, IsHullByCovers, IsHullWithout, IsNearlyAttained}
use Rattle.cover_finder.proofs.HeldErrors.{is_hull}
use Rattle.cover_finder.proofs.CaseEnds.{HoldOutside, hold_outside}
use Rattle.cover_finder.proofs.JoinedHulls.{HasHigh, HasLow, HasOne, high_from_one, low_from_one}
use Rattle.cover_finder.proofs.NearCourses.{near_high, near_low}

covers_are : (covers cases : List Groups) → AreOfCovers covers cases → length covers < 64 → cases ≡ covers
covers_are covers cases of_covers few = ⊎_elim
    (λ all. all.1)
    (λ many. let no = many.0 in absurd (omega arith))
    of_covers

module _ (claim : ClaimData) (xs : List Exchange) (stretch : Stretch) where
  -- a hull, and the cover of few groups that is left out
  pub record IsOfCase (hull : Hull) : Type 0 where
    pub out : Groups
    pub without : IsHullWithout claim xs stretch (holds out) hull
    pub cover : IsCover claim xs (holds out)
    pub small : size_of claim (holds out) ≤ claim.false_max

  -- with these groups false, or some, what the others say holds a point
  abbrev pub IsHeld : ℤ → Type 0
  IsHeld point = (is_in : ℕ → Bool) × HoldOutside claim xs stretch point is_in

  module _ (hull : Hull) (case : IsOfCase hull) (lo hi : ℤ) (bounded : hull ≡ Bounded lo hi) where
    ends : IsHull (group_intervals claim.groups case.without.parts)
        (claim.false_max - size_of claim (holds case.out)) (Bounded lo hi)
    ends =
        subst
        (IsHull (group_intervals claim.groups case.without.parts) (claim.false_max - size_of claim (holds case.out)))
        bounded (is_hull claim xs stretch (holds case.out) hull case.without)

    pub low_held : IsHeld lo
    low_held = (
      _,
      hold_outside claim xs stretch (holds case.out) case.without.parts case.without.whole lo case.cover
          case.small ends.1.0,
    )

    pub high_held : IsHeld hi
    high_held = (
      _,
      hold_outside claim xs stretch (holds case.out) case.without.parts case.without.whole hi case.cover
          case.small ends.2.0,
    )

  module _ (hull : Hull) (by : IsHullByCovers claim xs stretch hull) (few : length by.of.covers < 64) where
    case_of : (number : ℕ) (one : Hull) → slice_get by.hull_of.hulls number ≡ Some one → IsOfCase one
    case_of number one stands =
        let below = slice_get_within by.hull_of.hulls number one stands in
        let case = slice_get-below by.cases number (omega (arith, by.hull_of.same_number)) in
        let is_cover : slice_get by.of.covers number ≡ Some case.0 =
        subst (λ (cases : List Groups). slice_get cases number ≡ Some case.0)
        (covers_are by.of.covers by.cases by.of.of_covers few) case.1 in
        record {
          out = case.0;
          without = by.hull_of.each number case.0 one case.1 stands;
          cover = All-slice_get (λ cover. IsCover claim xs (holds cover)) by.of.covers number case.0
              by.of.are.are is_cover;
          small = All-slice_get (λ cover. size_of claim (holds cover) ≤ claim.false_max) by.of.covers number case.0
              by.of.are.few is_cover;
        }

    low_of : (lo : ℤ) → HasOne (HasLow lo) by.hull_of.hulls → IsHeld lo
    low_of lo has = low_held has.one (case_of has.number has.one has.stands) lo has.has.0 has.has.1

    high_of : (hi : ℤ) → HasOne (HasHigh hi) by.hull_of.hulls → IsHeld hi
    high_of hi has = high_held has.one (case_of has.number has.one has.stands) has.has.0 hi has.has.1

  module _ (lawful : IsLawful claim) (each : All (IsLawfulExchange (length claim.servers)) xs)
      (piece : IsPiece stretch.begin stretch.end) where
    pub nearly_attained : (hull : Hull) (by : IsHullByCovers claim xs stretch hull) → length by.of.covers < 64
        → IsNearlyAttained claim xs stretch hull
    nearly_attained Unbounded by few = tt
    nearly_attained Empty by few = tt
    nearly_attained (Bounded lo hi) by few =
        let low = low_of (Bounded lo hi) by few lo (low_from_one lo hi by.hull_of.hulls by.hull_of.joined) in
        let high = high_of (Bounded lo hi) by few hi (high_from_one lo hi by.hull_of.hulls by.hull_of.joined) in
        record {
          low = near_low claim xs stretch lawful each piece.in_order lo low.0 low.1;
          high = near_high claim xs stretch lawful each piece.in_order hi high.0 high.1;
        }
