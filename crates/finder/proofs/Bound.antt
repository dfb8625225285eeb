-- The least bound of hulls.
use Rattle.finder.proofs.Common.{◌≡◌, inl, inr, ℕ, zero, suc, ◌+◌, ◌-◌, ◌*◌, ◌/◌, ◌%◌, ◌<◌, ◌≤◌, max, ℤ, pos, neg_ℤ, int_le, true, refl, sym, ap, ◌∙◌, ⊎_elim, arith, add-one, mul-le-mul_right, cases_lt, div_ceil_times, ints, clamps, div-mul-add, div_ceil, nanoseconds_per_second, ticks_down, ceiling_of, ticks_per_second, Hull, Unbounded, Empty, Bounded, IsInside, HasNoEnds, AreInside, IsLeastBound, IsFirstInNeed, IsFirstWithout, IsLeast, reach_of, nanoseconds_of, with_need, with_piece, least_of, LeastBound, Holds, NoneHolds, lt-ltb, le-ltb, and_parts}
use Rattle.era_unfold.proofs.NanosecondTicks.{IsFloor-ticks_down}
use Rattle.era_unfold.proofs.Rounding.{IsCeiling-ceiling_of}
use Rattle.std.proofs.Common.{below_more}

-- ---- the number that the code computes

pub sum_is_ceiling : (ticks q : ℕ) → q ≡ div_ceil (ticks % ticks_per_second * nanoseconds_per_second) ticks_per_second
    → ticks / ticks_per_second * nanoseconds_per_second + q ≡ nanoseconds_of ticks
unfolding ceiling_of
sum_is_ceiling ticks q is =
    let rest : ℕ = ticks % ticks_per_second * nanoseconds_per_second in
    let bounds = div_ceil_times rest ticks_per_second (omega arith) in
    let c : ℕ = ticks / ticks_per_second * nanoseconds_per_second + q in
    let n : ℕ = ticks * nanoseconds_per_second in
    let left : n + (ticks_per_second - 1) - c * ticks_per_second < ticks_per_second =
    rw is (omega (arith, bounds.0, bounds.1)) in
    let parts : n + (ticks_per_second - 1)
    ≡ c * ticks_per_second + (n + (ticks_per_second - 1) - c * ticks_per_second) =
    rw is (omega (arith, bounds.0, bounds.1)) in
    sym (ap (λ x. x / ticks_per_second) parts ∙ div-mul-add c ticks_per_second _ left)

-- ---- when a hull lies inside a bound

reaches : (lo hi : ℤ) (t : ℕ) → int_le (neg_ℤ (pos t)) lo ≡ true → int_le hi (pos t) ≡ true → reach_of lo hi ≤ t
reaches lo hi t low high = grind (arith, ints, clamps)

low_end : (lo hi : ℤ) (t : ℕ) → reach_of lo hi ≤ t → int_le (neg_ℤ (pos t)) lo ≡ true
low_end lo hi t h = grind (arith, ints, clamps)

high_end : (lo hi : ℤ) (t : ℕ) → reach_of lo hi ≤ t → int_le hi (pos t) ≡ true
high_end lo hi t h = grind (arith, ints, clamps)

pub none_inside : (n : ℕ) (hull : Hull) → IsInside n hull → ¬ (HasNoEnds hull)
none_inside n Unbounded inside none = absurd cc
none_inside n Empty inside none = absurd cc
none_inside n (Bounded lo hi) inside (inl is) = absurd cc
none_inside n (Bounded lo hi) inside (inr is) = absurd cc

-- a bound in which the hull lies is no less than what the hull needs
pub needed : (n : ℕ) (lo hi : ℤ) → IsInside n (Bounded lo hi) → nanoseconds_of (reach_of lo hi) ≤ n
needed n lo hi inside =
    let ends = and_parts _ _ inside in
    let reach = reaches lo hi (ticks_down n) ends.0 ends.1 in
    let scaled = mul-le-mul_right nanoseconds_per_second reach in
    let down = (IsFloor-ticks_down n).not_above in
    (IsCeiling-ceiling_of (reach_of lo hi * nanoseconds_per_second) ticks_per_second (omega arith)).least n
    (omega (arith, scaled, down))

pub enough : (n : ℕ) (lo hi : ℤ) → nanoseconds_of (reach_of lo hi) ≤ n → IsInside n (Bounded lo hi)
enough n lo hi le =
    let up = (IsCeiling-ceiling_of (reach_of lo hi * nanoseconds_per_second) ticks_per_second
    (omega arith)).not_below in
    let scaled = mul-le-mul_right ticks_per_second le in
    let reach = (IsFloor-ticks_down n).greatest (reach_of lo hi) (omega (arith, up, scaled)) in
    rw (low_end lo hi (ticks_down n) reach, high_end lo hi (ticks_down n) reach) refl

-- a wider bound holds too
pub wider : (m n : ℕ) (hull : Hull) → m ≤ n → IsInside m hull → IsInside n hull
wider m n Unbounded le inside = absurd cc
wider m n Empty le inside = absurd cc
wider m n (Bounded lo hi) le inside =
    let least = needed m lo hi inside in
    enough n lo hi (omega arith)

-- ---- the least bound of the pieces so far

-- the same as `IsLeast`, of no piece too
abbrev SoFar : (ℕ → Hull) → ℕ → LeastBound → Type 0
SoFar hulls count (Holds n k) = IsLeastBound hulls count n × IsFirstInNeed hulls (max 1 count) n k
SoFar hulls count (NoneHolds k) = IsFirstWithout hulls count k

module _ (hulls : ℕ → Hull) (count : ℕ) where
  -- all lie inside with one more, if that does
  one_more : (n : ℕ) → AreInside hulls count n → IsInside n (hulls count) → AreInside hulls (count + 1) n
  one_more n before here = below_more (λ (k : ℕ). IsInside n (hulls k)) count before here

  one_less : (n : ℕ) → AreInside hulls (count + 1) n → AreInside hulls count n
  one_less n all k below = all k (omega arith)

  module _ (lo hi : ℤ) (is : hulls count ≡ Bounded lo hi) where
    needs : (m : ℕ) → IsInside m (hulls count) → nanoseconds_of (reach_of lo hi) ≤ m
    needs m inside = needed m lo hi (rw is at inside)

    inside : (m : ℕ) → nanoseconds_of (reach_of lo hi) ≤ m → IsInside m (hulls count)
    inside m le = rw is (enough m lo hi le)

    more_needed : (n j : ℕ) → SoFar hulls count (Holds n j) → n < nanoseconds_of (reach_of lo hi)
        → SoFar hulls (count + 1) (Holds (nanoseconds_of (reach_of lo hi)) count)
    more_needed n j so_far less = (
      record {
        all_inside = one_more (nanoseconds_of (reach_of lo hi))
            (λ k below. wider n (nanoseconds_of (reach_of lo hi)) (hulls k) (omega arith) (so_far.0.all_inside k below))
            (inside (nanoseconds_of (reach_of lo hi)) (omega arith));
        least = λ m all. needs m (all count (omega arith));
      },
      record {
        of_span = omega arith;
        in_need = needs;
        others_are_not = λ k below. (n, less, so_far.0.all_inside k below);
      },
    )

    no_more_needed : (n j : ℕ) → SoFar hulls count (Holds n j) → nanoseconds_of (reach_of lo hi) ≤ n
        → SoFar hulls (count + 1) (Holds n j)
    no_more_needed n j so_far le = (
      record {
        all_inside = one_more n so_far.0.all_inside (inside n le);
        least = λ m all. so_far.0.least m (one_less m all);
      },
      record {
        of_span = omega (arith, so_far.1.of_span);
        in_need = so_far.1.in_need;
        others_are_not = so_far.1.others_are_not;
      },
    )

    bounded_more : (n j : ℕ) → SoFar hulls count (Holds n j)
        → SoFar hulls (count + 1) (with_need n j count (nanoseconds_of (reach_of lo hi)))
    bounded_more n j so_far = ⊎_elim
        (λ less. rw (lt-ltb n (nanoseconds_of (reach_of lo hi)) less) (more_needed n j so_far less))
        (λ le. rw (le-ltb n (nanoseconds_of (reach_of lo hi)) le) (no_more_needed n j so_far le))
        (cases_lt n (nanoseconds_of (reach_of lo hi)))

  without_ends : (n j : ℕ) → SoFar hulls count (Holds n j) → HasNoEnds (hulls count)
      → IsFirstWithout hulls (count + 1) count
  without_ends n j so_far without = record {
    of_span = omega arith;
    without = without;
    others_have_ends = λ k below. none_inside n (hulls k) (so_far.0.all_inside k below);
  }

  piece_more : (so_far : LeastBound) (hull : Hull) → hulls count ≡ hull → SoFar hulls count so_far
      → SoFar hulls (count + 1) (with_piece so_far count hull)
  piece_more (NoneHolds j) hull is so_far =
      let of_span = so_far.of_span in
      record {
        of_span = omega arith;
        without = so_far.without;
        others_have_ends = so_far.others_have_ends;
      }
  piece_more (Holds n j) Unbounded is so_far = without_ends n j so_far (inl is)
  piece_more (Holds n j) Empty is so_far = without_ends n j so_far (inr is)
  piece_more (Holds n j) (Bounded lo hi) is so_far = bounded_more lo hi is n j so_far

none_so_far : (hulls : ℕ → Hull) → SoFar hulls 0 (Holds 0 0)
none_so_far hulls = grind arith

least_so_far : (hulls : ℕ → Hull) (count : ℕ) → SoFar hulls count (least_of hulls count)
least_so_far hulls zero = none_so_far hulls
least_so_far hulls (suc n) =
    rw (← add-one) (piece_more hulls n (least_of hulls n) (hulls n) refl (least_so_far hulls n))

so_far_is_least : (hulls : ℕ → Hull) (count : ℕ) (least : LeastBound) → 0 < count → SoFar hulls count least
    → IsLeast hulls count least
so_far_is_least hulls count (NoneHolds k) some so_far = so_far
so_far_is_least hulls count (Holds n k) some so_far =
    let same : max 1 count ≡ count = omega arith in (so_far.0, rw same at so_far.1)

pub least_is_least : (hulls : ℕ → Hull) (count : ℕ) → 0 < count → IsLeast hulls count (least_of hulls count)
least_is_least hulls count some = so_far_is_least hulls count (least_of hulls count) some (least_so_far hulls count)

-- ---- no other answer is

neither_less : (j k : ℕ) → ¬ (j < k) → ¬ (k < j) → j ≡ k
neither_less j k not_less not_more = ⊎_elim (λ less. absurd (not_less less))
    (λ le. ⊎_elim (λ more. absurd (not_more more)) (λ ge. omega (arith, le, ge)) (cases_lt k j)) (cases_lt j k)

module _ (hulls : ℕ → Hull) (count : ℕ) where
  not_later : (n j k : ℕ) → IsFirstInNeed hulls count n j → IsFirstInNeed hulls count n k → ¬ (j < k)
  not_later n j k a b before =
      let less = b.others_are_not j before in
      omega (arith, less, a.in_need less.0 less.2)

  one_piece : (n m j k : ℕ) → n ≡ m → IsFirstInNeed hulls count n j → IsFirstInNeed hulls count m k → j ≡ k
  one_piece n m j k same a b =
      let c : IsFirstInNeed hulls count n k = rw same b in
      neither_less j k (not_later n j k a c) (not_later n k j c a)

  not_without : (n k : ℕ) → IsLeastBound hulls count n → IsFirstWithout hulls count k → ⊥
  not_without n k a b = none_inside n (hulls k) (a.all_inside k b.of_span) b.without

  pub least_is_one : (a b : LeastBound) → IsLeast hulls count a → IsLeast hulls count b → a ≡ b
  least_is_one (Holds n j) (Holds m k) (a, in_a) (b, in_b) =
      let up = a.least m b.all_inside in
      let down = b.least n a.all_inside in
      let same : n ≡ m = omega arith in
      ap (λ (i : ℕ). Holds i j) same ∙ ap (Holds m) (one_piece n m j k same in_a in_b)
  least_is_one (Holds n j) (NoneHolds k) (a, in_a) b = absurd (not_without n k a b)
  least_is_one (NoneHolds j) (Holds m k) a (b, in_b) = absurd (not_without m j b a)
  least_is_one (NoneHolds j) (NoneHolds k) a b =
      ap NoneHolds (neither_less j k (λ before. b.others_have_ends j before a.without)
      (λ after. a.others_have_ends k after b.without))
