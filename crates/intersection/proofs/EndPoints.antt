-- If a point is admissible, so are an end that is not above it and one that is not below it.
use Rattle.intersection.proofs.Common.{◌≡◌, ℕ, ◌<◌, ◌≤◌, ℤ, ◌≤ℤ◌, Bool, true, false, cond, int_le, nat_le, ◌⊎◌, inl, inr, ⊎_elim, List, [], ◌∷◌, length, refl, ap, sym, ◌∙◌, subst, arith, filter, fold, ints, nat_tests, cond-true, cond-false, sum_by-cons, int_max, int_min, leaves_out, Interval, count_leaving_out, IsAdmissible, IsHull, end_points, admissible_ends, range_of, hull_of, by_test, ≤ℤ_trans, rules}
use Rattle.intersection.proofs.Intervals.{test_le, inside_from_test, test_from_inside}

-- a point stands in a list
abbrev pub StandsIn : List ℤ → ℤ → Type 0
StandsIn [] q = ⊥
StandsIn (p ∷ ps) q = (q ≡ p) ⊎ StandsIn ps q

filter_stands : (test : ℤ → Bool) (xs : List ℤ) (q : ℤ) → test q ≡ true → StandsIn xs q → StandsIn (filter test xs) q
filter_stands test [] q h s = absurd s
filter_stands test (x ∷ xs) q h s = by_test (test x)
    (λ passes. rw (cond-true (test x) (x ∷ filter test xs) (filter test xs) passes)
    (⊎_elim (λ e. inl e) (λ later. inr (filter_stands test xs q h later)) s))
    (λ fails. rw (cond-false (test x) (x ∷ filter test xs) (filter test xs) fails)
    (⊎_elim (λ e. absurd (let same : test x ≡ test q = ap test (sym e) in cc))
    (λ later. filter_stands test xs q h later) s))

from_filter : (test : ℤ → Bool) (xs : List ℤ) (q : ℤ) → StandsIn (filter test xs) q
    → (test q ≡ true) × StandsIn xs q
from_filter test [] q s = absurd s
from_filter test (x ∷ xs) q s = by_test (test x)
    (λ passes.
    let s' = rw (cond-true (test x) (x ∷ filter test xs) (filter test xs) passes) at s in
    ⊎_elim (λ e. (ap test e ∙ passes, inl e))
    (λ later. let rest = from_filter test xs q later in (rest.0, inr rest.1)) s')
    (λ fails.
    let s' = rw (cond-false (test x) (x ∷ filter test xs) (filter test xs) fails) at s in
    let rest = from_filter test xs q s' in
    (rest.0, inr rest.1))

-- ---- the least point of a list, or the greatest

-- `pick` picks of two points the one that comes first in the order R, which `test` decides
record Picks (pick : ℤ → ℤ → ℤ) (R : ℤ → ℤ → Type 0) (test : ℤ → ℤ → Bool) : Type 0 where
  either : (x y : ℤ) → (pick x y ≡ x) ⊎ (pick x y ≡ y)
  before_first : (x y : ℤ) → R (pick x y) x
  before_second : (x y : ℤ) → R (pick x y) y
  same : (x : ℤ) → R x x
  chain : (x y z : ℤ) → R x y → R y z → R x z
  passes : (x y : ℤ) → R x y → test x y ≡ true
  passed : (x y : ℤ) → test x y ≡ true → R x y

module _ (pick : ℤ → ℤ → ℤ) (R : ℤ → ℤ → Type 0) (test : ℤ → ℤ → Bool) (picks : Picks pick R test) where
  -- of these points the first is one of them, and comes before each
  first_of : (p : ℤ) (ps : List ℤ) → StandsIn (p ∷ ps) (fold pick p ps)
      × ((q : ℤ) → StandsIn (p ∷ ps) q → R (fold pick p ps) q)
  first_of p [] = (inl refl, λ q. ⊎_elim (λ e. rw e (picks.same p)) (λ none. absurd none))
  first_of p (x ∷ xs) =
      let rest = first_of (pick p x) xs in
      let before = rest.1 (pick p x) (inl refl) in (
        ⊎_elim
            (λ e. ⊎_elim (λ first. inl (e ∙ first)) (λ second. inr (inl (e ∙ second))) (picks.either p x))
            (λ later. inr (inr later)) rest.0,
        λ q. ⊎_elim (λ e. rw e (picks.chain _ _ _ before (picks.before_first p x)))
            (⊎_elim (λ e. rw e (picks.chain _ _ _ before (picks.before_second p x)))
            (λ later. rest.1 q (inr later))),
      )

  -- of the points of a list that p comes before there is a first, if there is one
  nearest : (p : ℤ) (ps after : List ℤ) (q : ℤ) → filter (test p) ps ≡ after → StandsIn ps q → R p q
      → (first : ℤ) × StandsIn ps first × R p first × ((e : ℤ) → StandsIn ps e → R p e → R first e)
  nearest p ps [] q is s h = absurd (rw is at (filter_stands (test p) ps q (picks.passes p q h) s))
  nearest p ps (x ∷ xs) q is s h =
      let first = first_of x xs in
      let found = from_filter (test p) ps (fold pick x xs) (rw is first.0) in (
        fold pick x xs,
        found.1,
        picks.passed p _ found.0,
        λ e s' h'. first.1 e (rw is at (filter_stands (test p) ps e (picks.passes p e h') s')),
      )

least : Picks int_min (λ x y. x ≤ℤ y) int_le
least = search rules

greatest : Picks int_max (λ x y. y ≤ℤ x) (λ x y. int_le y x)
greatest = search rules

-- ---- ends beside a point

-- an interval that holds p holds q, if no end passes from one side of p to the other side of q
no_more : (list : List Interval) (p q : ℤ) → ((e : ℤ) → StandsIn (end_points list) e → e ≤ℤ p → e ≤ℤ q)
    → ((e : ℤ) → StandsIn (end_points list) e → p ≤ℤ e → q ≤ℤ e)
    → count_leaving_out list q ≤ count_leaving_out list p
no_more [] p q below above = omega arith
no_more (interval ∷ list) p q below above =
    let rest = no_more list p q (λ e s. below e (inr (inr s))) (λ e s. above e (inr (inr s))) in
    let here = test_le (leaves_out interval q) (leaves_out interval p)
    (λ held.
    let inside = inside_from_test interval p held in
    test_from_inside interval q (below interval.lo (inl refl) inside.0, above interval.hi (inr (inl refl)) inside.1)) in
    omega (
      arith,
      sum_by-cons (λ i. cond (leaves_out i q) 1 0) interval list,
      sum_by-cons (λ i. cond (leaves_out i p) 1 0) interval list,
    )

-- if an interval holds p, one of its ends is not above p, and one is not below it
some_ends : (list : List Interval) (p : ℤ) → count_leaving_out list p < length list
    → ((q : ℤ) × StandsIn (end_points list) q × (q ≤ℤ p)) × ((q : ℤ) × StandsIn (end_points list) q × (p ≤ℤ q))
some_ends [] p few = absurd (omega arith)
some_ends (interval ∷ list) p few = by_test (leaves_out interval p)
    (λ out.
    let count = sum_by-cons (λ i. cond (leaves_out i p) 1 0) interval list in
    let rest = some_ends list p (omega (arith, count, cond-true {A = ℕ} (leaves_out interval p) 1 0 out)) in
    ((rest.0.0, inr (inr rest.0.1), rest.0.2), (rest.1.0, inr (inr rest.1.1), rest.1.2)))
    (λ held.
    let inside = inside_from_test interval p held in
    ((interval.lo, inl refl, inside.0), (interval.hi, inr (inl refl), inside.1)))

-- ---- the hull

module _ (list : List Interval) (f : ℕ) (below : f < length list) where
  admissible_stands : (q : ℤ) → IsAdmissible list f q → StandsIn (end_points list) q
      → StandsIn (admissible_ends list f) q
  admissible_stands q few s = filter_stands _ (end_points list) q (grind (arith, nat_tests)) s

  stands_admissible : (q : ℤ) → StandsIn (admissible_ends list f) q → IsAdmissible list f q
  stands_admissible q s = grind (arith, nat_le, count_leaving_out, from_filter, end_points)

  ends_beside : (p : ℤ) → IsAdmissible list f p → ((q : ℤ) × StandsIn (admissible_ends list f) q × (q ≤ℤ p))
      × ((q : ℤ) × StandsIn (admissible_ends list f) q × (p ≤ℤ q))
  ends_beside p few =
      let ends = some_ends list p (omega arith) in
      let low = nearest _ _ _ greatest p (end_points list) _ ends.0.0 refl ends.0.1 ends.0.2 in
      let high = nearest _ _ _ least p (end_points list) _ ends.1.0 refl ends.1.1 ends.1.2 in
      let fewer_low = no_more list p low.0 low.3 (λ e s above. ≤ℤ_trans low.0 p e low.2 above) in
      let fewer_high = no_more list p high.0 (λ e s below. ≤ℤ_trans e p high.0 below high.2) high.3 in (
        (low.0, admissible_stands low.0 (omega arith) low.1, low.2),
        (high.0, admissible_stands high.0 (omega arith) high.1, high.2),
      )

  range_is_hull : (ends : List ℤ) → admissible_ends list f ≡ ends → IsHull list f (range_of ends)
  range_is_hull [] e = (below, λ p few. let q = (ends_beside p few).0 in subst (λ (xs : List ℤ). StandsIn xs q.0) e q.1)
  range_is_hull (first ∷ ends) e =
      let lo = first_of _ _ _ least first ends in
      let hi = first_of _ _ _ greatest first ends in
      let given : (q : ℤ) → StandsIn (admissible_ends list f) q → StandsIn (first ∷ ends) q =
      λ q s. subst (λ (xs : List ℤ). StandsIn xs q) e s in (
        below,
        (
          stands_admissible _ (subst (λ (xs : List ℤ). StandsIn xs (fold int_min first ends)) (sym e) lo.0),
          λ p few. let q = (ends_beside p few).0 in ≤ℤ_trans _ q.0 p (lo.1 q.0 (given q.0 q.1)) q.2,
        ),
        (
          stands_admissible _ (subst (λ (xs : List ℤ). StandsIn xs (fold int_max first ends)) (sym e) hi.0),
          λ p few. let q = (ends_beside p few).1 in ≤ℤ_trans p q.0 _ q.2 (hi.1 q.0 (given q.0 q.1)),
        ),
      )

lt_from_test : (m n : ℕ) → nat_le m n ≡ false → n < m
lt_from_test m n h = grind (arith, nat_tests)

pub IsHull-hull_of : (list : List Interval) (f : ℕ) → IsHull list f (hull_of list f)
unfolding hull_of
IsHull-hull_of list f =
    grind (arith, ints, nat_tests, by_test, cond-true, range_of, cond-false, range_is_hull, lt_from_test)
