-- Hulls by covers hold the error.
use Rattle.std.proofs.Common.{◌≡◌, ℕ, zero, suc, ◌-◌, Bool, inl, inr, ⊎_elim, List, [], ◌∷◌, Some, length, get_or, fold, sym, subst, arith}
use Rattle.std.proofs.lemmas.Option.{slice_get-get_or}
use Rattle.std.specs.Prelude.{All, slice_get}
use Rattle.claim_file.specs.Claim.{IsLawful}
use Rattle.feasibility.proofs.Covers.{false_groups_cover, listed_in_groups}
use Rattle.intersection.proofs.EndPoints.{IsHull-hull_of}
use Rattle.intersection.specs.Hull.{IsHull}
use Rattle.lemma_base.proofs.List.{slice_get-below}
use Rattle.span_cover.specs.Group.{group_intervals}
use Rattle.cover_finder.specs.Common.{ClaimData, Course, Empty, Exchange, Groups, HasFalse, HoldsErrorOf, HoldsOne, HoldsOneOr64, Hull, IsInHull, IsLawful as IsLawfulExchange, IsSaidBySome, Part, Stretch, holds, holds_false, size_of}
use Rattle.cover_finder.specs.Hull.{AreOfCovers, HoldsError, IsHullByCovers, IsHullOf, IsHullWithout, join_of}
use Rattle.cover_finder.proofs.Hulls.{AreCases, Holds, join_first, join_second, of_cases}

-- ---- the least hull that holds several

module _ (course : Course) where
  still_held : (before : Hull) (hulls : List Hull) → IsInHull course before
      → IsInHull course (fold join_of before hulls)
  still_held before [] held = held
  still_held before (first ∷ hulls) held =
      still_held (join_of before first) hulls (join_first course before first held)

  held_by_one : (before : Hull) (hulls : List Hull) (k : ℕ) (one : Hull) → slice_get hulls k ≡ Some one
      → IsInHull course one → IsInHull course (fold join_of before hulls)
  held_by_one before [] k one at held = absurd cc
  held_by_one before (first ∷ hulls) zero one at held =
      let same : one ≡ first = cc in
      still_held (join_of before first) hulls (join_second course before first (subst (IsInHull course) same held))
  held_by_one before (first ∷ hulls) (suc k) one at held =
      held_by_one (join_of before first) hulls k one at held

-- ---- cases

one_of_cases : (covers cases : List Groups) (whole : ℕ → Bool) → AreOfCovers covers cases → HoldsOneOr64 covers whole
    → HoldsOne cases whole
one_of_cases covers cases whole (inl (few, are)) some = ⊎_elim
    (λ one. subst (λ (sets : List Groups). HoldsOne sets whole) (sym are) one)
    (λ many. absurd (omega arith))
    some
one_of_cases covers cases whole (inr (many, (out, are, none))) some =
    subst (λ (sets : List Groups). HoldsOne sets whole) (sym are)
    (inl (λ group in_it. absurd (let isnt = none group in cc)))

-- the hull of a case is that of its groups' intervals
pub is_hull : (claim : ClaimData) (xs : List Exchange) (stretch : Stretch) (out : ℕ → Bool) (hull : Hull)
    (without : IsHullWithout claim xs stretch out hull)
    → IsHull (group_intervals claim.groups without.parts) (claim.false_max - size_of claim out) hull
is_hull claim xs stretch out hull without =
    let intervals = group_intervals claim.groups without.parts in
    let few : ℕ = claim.false_max - size_of claim out in
    subst (IsHull intervals few) (sym without.is) (IsHull-hull_of intervals few)

-- what cover_checker says of each hull
abbrev pub HullsHold : Type 0
HullsHold = (claim : ClaimData) (xs : List Exchange) (out : ℕ → Bool) (stretch : Stretch) (parts : List Part)
    (hull : Hull) → IsLawful claim → All (IsLawfulExchange (length claim.servers)) xs
    → All (IsSaidBySome claim xs out stretch) parts
    → IsHull (group_intervals claim.groups parts) (claim.false_max - size_of claim out) hull
    → HoldsErrorOf claim xs stretch (HasFalse claim out) hull

module _ (claim : ClaimData) (xs : List Exchange) (stretch : Stretch) (lawful : IsLawful claim)
    (each : All (IsLawfulExchange (length claim.servers)) xs) (hull : Hull) where
  are_cases : (by : IsHullByCovers claim xs stretch hull) → AreCases claim xs stretch by.cases
  are_cases by course fits =
      one_of_cases by.of.covers by.cases (holds_false claim.groups course.is_false) by.of.of_covers
      (by.of.are.all_or_64 (holds_false claim.groups course.is_false)
      (false_groups_cover claim lawful.drift_in_range xs (listed_in_groups claim xs lawful each) course fits)
      fits.few_false)

  module _ (hold : HullsHold) (cases : List Groups) (of : IsHullOf claim xs stretch cases hull) where
    one_holds : (out : Groups) (one : Hull) → IsHullWithout claim xs stretch (holds out) one
        → HoldsErrorOf claim xs stretch (HasFalse claim (holds out)) one
    one_holds out one without =
        hold claim xs (holds out) stretch without.parts one lawful each without.whole.said
        (is_hull claim xs stretch (holds out) one without)

    all_hold : All (Holds claim xs stretch hull) cases
    all_hold k d below course fits false' observed =
        let one = slice_get-below of.hulls k (omega (arith, of.same_number)) in
        let without = of.each k (get_or cases k d) one.0 (slice_get-get_or cases k d below) one.1 in
        subst (IsInHull course) (sym of.joined)
        (held_by_one course Empty of.hulls k one.0 one.1
        (one_holds (get_or cases k d) one.0 without course fits false' observed))

  pub held : HullsHold → IsHullByCovers claim xs stretch hull → HoldsError claim xs stretch hull
  held hold by =
      of_cases claim xs stretch hull by.cases (all_hold hold by.cases by.hull_of) (are_cases by)
