-- Of the groups that have an entry, only those that hold a false server can leave the error out.
use Rattle.checker.proofs.Common.{◌≡◌, ℕ, zero, suc, ◌+◌, ◌<◌, ◌≤◌, ℤ, Bool, true, false, cond, ◌&&◌, List, [], ◌∷◌, ◌++◌, length, Option, Some, None, IfSome, count_by, refl, subst, arith, All, slice_index, ◌==◌, fold, filter, filter_map, list_any, cons_option, AllByRecursion, ints, cond-true, cond-false, nat_tests, sum_by-cons, recursion_from_All, HoldsFraction, leaves_fraction_out, IsAdmissibleFraction, Interval, holds_false, false_group_count, numbers_below, meet_of, narrowed, group_interval, group_intervals, Part, by_test, or_parts, true_from_ne_false, ◌∙◌}

-- ---- tests that fail

pub second_fails : (a b : Bool) → (a && b) ≡ false → a ≡ true → b ≡ false
second_fails true b h yes' = h
second_fails false b h yes' = absurd cc

none_of : (p : ℕ → Bool) (xs : List ℕ) (k : ℕ) → list_any p (xs ++ k ∷ []) ≡ false
    → (list_any p xs ≡ false) × (p k ≡ false)
none_of p [] k h = let parts = or_parts (p k) false h in (refl, parts.0)
none_of p (x ∷ xs) k h =
    let parts = or_parts (p x) (list_any p (xs ++ k ∷ [])) h in
    let rest = none_of p xs k parts.1 in
    (rw (parts.0, rest.0) refl, rest.1)

-- a test that no number below n passes
pub fails_below : (p : ℕ → Bool) (n k : ℕ) → k < n → list_any p (numbers_below n) ≡ false → p k ≡ false
fails_below p zero k below h = absurd (omega arith)
fails_below p (suc n) k below h =
    let parts = none_of p (numbers_below n) n h in
    by_test (k == n)
    (λ same. let is : n ≡ k = grind (arith, nat_tests) in subst (λ (m : ℕ). p m ≡ false) is parts.1)
    (λ other. fails_below p n k (grind (arith, nat_tests)) parts.0)

-- a number that passes is found
pub found_below : (p : ℕ → Bool) (n k : ℕ) → k < n → p k ≡ true → list_any p (numbers_below n) ≡ true
found_below p n k below passes = true_from_ne_false (list_any p (numbers_below n))
    (λ none. let fails = fails_below p n k below none in cc)

-- ---- the meet of intervals that hold a fraction

meet_holds : (a b : Interval) (e : ℤ) (n : ℕ) → HoldsFraction a e n → HoldsFraction b e n
    → HoldsFraction (meet_of a b) e n
meet_holds a b e n in_a in_b = grind (arith, ints, nat_tests)

module _ (e : ℤ) (n : ℕ) where
  -- what is common so far holds the fraction, if there is anything
  narrowed_holds : (common : Option Interval) (part : Part) → IfSome common (λ i. HoldsFraction i e n)
      → HoldsFraction part.interval e n → IfSome (narrowed common part) (λ i. HoldsFraction i e n)
  narrowed_holds None part so_far holds = holds
  narrowed_holds (Some common) part so_far holds = meet_holds common part.interval e n so_far holds

  common_holds : (test : Part → Bool) (common : Option Interval) (parts : List Part)
      → IfSome common (λ i. HoldsFraction i e n)
      → AllByRecursion (λ part. test part ≡ true → HoldsFraction part.interval e n) parts
      → IfSome (fold narrowed common (filter test parts)) (λ i. HoldsFraction i e n)
  common_holds test common [] so_far all = so_far
  common_holds test common (part ∷ parts) so_far all = by_test (test part)
      (λ passes. rw (cond-true (test part) (part ∷ filter test parts) (filter test parts) passes)
      (common_holds test (narrowed common part) parts (narrowed_holds common part so_far (all.0 passes)) all.1))
      (λ fails. rw (cond-false (test part) (part ∷ filter test parts) (filter test parts) fails)
      (common_holds test common parts so_far all.1))

  -- a fraction that an interval holds isn't left out by it
  not_left_out : (interval : Interval) → HoldsFraction interval e n → leaves_fraction_out interval e n ≡ false
  not_left_out interval holds = grind (arith, ints)

-- ---- counts

-- where one test implies another, the other counts no less
pub implies_le : (p q : Bool) → (p ≡ true → q ≡ true) → cond p 1 0 ≤ cond q 1 0
implies_le true q h = rw (h refl) (omega arith)
implies_le false _ h = omega arith

pub counted : (r : ℕ → Bool) (g : ℕ) (gs : List ℕ) → count_by r (g ∷ gs) ≡ cond (r g) 1 0 + count_by r gs
counted r g gs = sum_by-cons _ g gs

module _ (h : ℕ → Option Interval) (q : Interval → Bool) (r : ℕ → Bool)
    (only : (g : ℕ) (i : Interval) → h g ≡ Some i → r g ≡ false → q i ≡ false) where
  -- if nothing that h gives passes q unless its number passes r, no more are counted
  one_counted : (g : ℕ) (gs : List ℕ) (o : Option Interval) (b : Bool) → h g ≡ o → r g ≡ b
      → count_by q (filter_map h gs) ≤ count_by r gs
      → count_by q (cons_option o (filter_map h gs)) ≤ cond b 1 0 + count_by r gs
  one_counted g gs None b is t rest = omega arith
  one_counted g gs (Some i) b is t rest = omega (
    arith,
    sum_by-cons (λ j. cond (q j) 1 0) i (filter_map h gs),
    implies_le (q i) b
        (λ passes. by_test b (λ holds. holds) (λ fails. absurd (let no = only g i is (t ∙ fails) in cc))),
  )

  counts_le : (gs : List ℕ) → count_by q (filter_map h gs) ≤ count_by r gs
  counts_le [] = omega arith
  counts_le (g ∷ gs) =
      grind (arith, ints, nat_tests, one_counted g gs (h g) (r g) refl refl (counts_le gs), one_counted, counted)

-- ---- groups

module _ (groups : List ℕ) (parts : List Part) (is_false : ℕ → Bool) (e : ℤ) (n : ℕ)
    (listed : All (λ part. part.server < length groups) parts)
    (hold : All (λ part. is_false part.server ≡ false → HoldsFraction part.interval e n) parts) where
  -- if a group holds no false server, the intervals of its parts hold the error
  parts_of_true_group : (g : ℕ) → holds_false groups is_false g ≡ false
      → All (λ part. (slice_index groups part.server == g) ≡ true → HoldsFraction part.interval e n) parts
  parts_of_true_group g none k d below in_it =
      hold k d below
      (second_fails _ _ (fails_below _ (length groups) _ (listed k d below) none) in_it)

  group_holds : (g : ℕ) (interval : Interval) → group_interval groups parts g ≡ Some interval
      → holds_false groups is_false g ≡ false → leaves_fraction_out interval e n ≡ false
  group_holds g interval is none =
      let all = recursion_from_All
      (λ part. (slice_index groups part.server == g) ≡ true → HoldsFraction part.interval e n) parts
      (parts_of_true_group g none) in
      let common = common_holds e n (λ part. slice_index groups part.server == g) None parts tt all in
      let holds : HoldsFraction interval e n =
      subst (λ (o : Option Interval). IfSome o (λ i. HoldsFraction i e n)) is common in
      not_left_out e n interval holds

  -- so at most as many groups leave the error out as hold a false server
  pub few_leave_it_out : (f : ℕ) → false_group_count groups is_false ≤ f
      → IsAdmissibleFraction (group_intervals groups parts) f e n
  few_leave_it_out f few = grind (arith, ints, nat_tests, counts_le, group_holds)
