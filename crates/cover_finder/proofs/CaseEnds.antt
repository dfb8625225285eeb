-- A point that few groups leave out, where those of a cover are out already: with theirs a cover of few
-- groups, outside which each exchange holds the point.
use Rattle.std.proofs.Common.{◌≡◌, ℕ, ◌+◌, ◌-◌, ◌≤◌, ℤ, ◌≤ℤ◌, Bool, true, false, ◌||◌, inl, inr, ⊎_elim, List, [], ◌∷◌, Some, count_by, length, sym, subst, arith, ap}
use Rattle.std.proofs.lemmas.Bool.{and_from, eq-eqb, or_left, or_parts}
use Rattle.std.proofs.lemmas.Bool.Decides.{nat_tests}
use Rattle.std.proofs.lemmas.Int.{ints}
use Rattle.std.proofs.lemmas.List.Folds.{list_any-from_Any}
use Rattle.std.specs.Prelude.{Any, slice_get, slice_index, ◌==◌, ◌&&◌}
use Rattle.checker.proofs.Counting.{counted as counted-cons}
use Rattle.checker.proofs.Separation.{counted, group_passes, meet_leaves_it_out, passes}
use Rattle.feasibility.specs.Cover.{IsCover}
use Rattle.intersection.specs.Hull.{IsAdmissible}
use Rattle.intersection.specs.Interval.{leaves_out}
use Rattle.intersection.specs.declared.kinds.Interval.{Interval}
use Rattle.lemma_base.proofs.Bool.{by_test}
use Rattle.lemma_base.proofs.Int.{≤ℤ_trans}
use Rattle.span_cover.specs.Group.{group_interval, group_intervals, numbers_below}
use Rattle.cover_finder.specs.Common.{ClaimData, Exchange, Part, Stretch, group_of, high_mark, high_over, low_mark, low_over, size_of}
use Rattle.cover_finder.specs.Hull.{AreWhole, IsWhole}

-- of two tests one passes no more often than both together
count_either : (p q : ℕ → Bool) (ks : List ℕ) → count_by (λ k. p k || q k) ks ≤ count_by p ks + count_by q ks
count_either p q [] = omega arith
count_either p q (k ∷ ks) =
    grind (
      arith,
      nat_tests,
      counted-cons (λ k. p k || q k) k ks,
      counted-cons p k ks,
      counted-cons q k ks,
      count_either p q ks,
    )

-- what doesn't leave a point out holds it
holds_point : (interval : Interval) (point : ℤ) → leaves_out interval point ≡ false
    → (interval.lo ≤ℤ point) × (point ≤ℤ interval.hi)
holds_point interval point doesnt = (grind (arith, ints, nat_tests), grind (arith, ints, nat_tests))

module _ (claim : ClaimData) (xs : List Exchange) (stretch : Stretch) where
  -- these groups are a cover, no more than may be false, and each exchange of another holds the point over the stretch
  pub record HoldOutside (point : ℤ) (is_in : ℕ → Bool) : Type 0 where
    pub cover : IsCover claim xs is_in
    pub few : size_of claim is_in ≤ claim.false_max
    pub low : (number : ℕ) (x : Exchange) → slice_get xs number ≡ Some x → is_in (group_of claim x) ≡ false
        → low_over claim.drift_ppb stretch (low_mark claim.reading x) ≤ℤ point
    pub high : (number : ℕ) (x : Exchange) → slice_get xs number ≡ Some x → is_in (group_of claim x) ≡ false
        → point ≤ℤ high_over claim.drift_ppb stretch (high_mark claim.reading x)

  module _ (out : ℕ → Bool) (parts : List Part) (whole : AreWhole claim xs out stretch parts) (point : ℤ) where
    -- the group's interval leaves the point out
    abbrev leaves : ℕ → Bool
    leaves group = passes (λ i. leaves_out i point) (group_interval claim.groups parts group)

    -- the groups that are out, and those
    abbrev pub outside : ℕ → Bool
    outside group = out group || leaves group

    still_cover : IsCover claim xs out → IsCover claim xs outside
    still_cover cover = record {
      broken = λ group broken. or_left (out group) (leaves group) (cover.broken group broken);
      one_of_two = λ a b conflict. ⊎_elim
          (λ in_a. inl (or_left (out a) (leaves a) in_a))
          (λ in_b. inr (or_left (out b) (leaves b) in_b))
          (cover.one_of_two a b conflict);
    }

    still_few : size_of claim out ≤ claim.false_max
        → IsAdmissible (group_intervals claim.groups parts) (claim.false_max - size_of claim out) point
        → size_of claim outside ≤ claim.false_max
    still_few few admissible =
        omega (
          arith,
          count_either out leaves (numbers_below (length claim.groups)),
          counted (λ i. leaves_out i point) (meet_leaves_it_out point) (group_interval claim.groups parts)
              (numbers_below (length claim.groups)),
        )

    -- the part of a server whose group doesn't leave the point out holds it
    part_holds : (x : Exchange) (found : Any (λ part. part.server ≡ x.server) parts)
        → leaves (group_of claim x) ≡ false → leaves_out (found.1).interval point ≡ false
    part_holds x (k, part, below, is, of_server) none = by_test (leaves_out part.interval point)
        (λ does.
        let p : Part → Bool = λ (q : Part). (slice_index claim.groups q.server == group_of claim x)
        && leaves_out q.interval point in
        let same : slice_index claim.groups part.server ≡ group_of claim x =
        ap (slice_index claim.groups) of_server in
        let this : p part ≡ true = and_from _ _ (eq-eqb _ _ same) does in
        let some = list_any-from_Any p parts (k, part, below, is, this) in
        let all = group_passes (λ i. leaves_out i point) (meet_leaves_it_out point) claim.groups parts
        (group_of claim x) in
        absurd (cc))
        (λ doesnt. doesnt)

    module _ (number : ℕ) (x : Exchange) (at : slice_get xs number ≡ Some x)
        (stays : outside (group_of claim x) ≡ false) where
      -- its group isn't out, and its interval holds the point
      neither : (out (group_of claim x) ≡ false) × (leaves (group_of claim x) ≡ false)
      neither = or_parts (out (group_of claim x)) (leaves (group_of claim x)) stays

      found : Any (λ part. part.server ≡ x.server) parts
      found = whole.each number x at neither.0

      found_whole : IsWhole claim xs stretch found.1
      found_whole = subst (IsWhole claim xs stretch) found.3 (whole.whole found.0 found.1 found.2)

      found_holds : ((found.1).interval.lo ≤ℤ point) × (point ≤ℤ (found.1).interval.hi)
      found_holds = holds_point (found.1).interval point (part_holds x found neither.1)

      low_stays : low_over claim.drift_ppb stretch (low_mark claim.reading x) ≤ℤ point
      low_stays = ≤ℤ_trans _ _ _ (found_whole.low number x at (sym found.4)) found_holds.0

      high_stays : point ≤ℤ high_over claim.drift_ppb stretch (high_mark claim.reading x)
      high_stays = ≤ℤ_trans _ _ _ found_holds.1 (found_whole.high number x at (sym found.4))

    -- they hold the point outside
    pub hold_outside : IsCover claim xs out → size_of claim out ≤ claim.false_max
        → IsAdmissible (group_intervals claim.groups parts) (claim.false_max - size_of claim out) point
        → HoldOutside point outside
    hold_outside cover few admissible = record {
      cover = still_cover cover;
      few = still_few few admissible;
      low = low_stays;
      high = high_stays;
    }
