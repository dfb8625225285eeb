-- The tests on one interval, and the points of the meet of two.
use Rattle.intersection.proofs.Common.{◌≡◌, ℕ, ◌≤◌, ℤ, pos, ◌*ℤ◌, ◌<ℤ◌, ◌≤ℤ◌, ◌⊎◌, ◌↔◌, inl, inr, ⊎_elim, Bool, true, false, cond, refl, subst, ◌∙◌, arith, int_lt, ints, clamps, int_max, int_min, times_le, LeavesOut, leaves_out, LeavesFractionOut, Interval}

pub int_max_or : (x y : ℤ) → (int_max x y ≡ x) ⊎ (int_max x y ≡ y)
int_max_or x y = elim (int_lt y x) as (λ t. (cond t x y ≡ x) ⊎ (cond t x y ≡ y)) [ true ↦ inl refl | false ↦ inr refl ]

pub int_min_or : (x y : ℤ) → (int_min x y ≡ x) ⊎ (int_min x y ≡ y)
int_min_or x y = elim (int_lt y x) as (λ t. (cond t y x ≡ x) ⊎ (cond t y x ≡ y)) [ true ↦ inr refl | false ↦ inl refl ]

-- a test that fails wherever another fails counts no more
pub test_le : (p q : Bool) → (q ≡ false → p ≡ false) → cond p 1 0 ≤ cond q 1 0
test_le p true h = elim p as (λ t. cond t 1 0 ≤ 1) [ true ↦ omega arith | false ↦ omega arith ]
test_le p false h = let no : p ≡ false = h refl in rw no (omega arith)

pub inside_from_test : (interval : Interval) (point : ℤ) → leaves_out interval point ≡ false
    → (interval.lo ≤ℤ point) × (point ≤ℤ interval.hi)
inside_from_test interval point h = (grind (arith, ints), grind (arith, ints))

pub test_from_inside : (interval : Interval) (point : ℤ) → (interval.lo ≤ℤ point) × (point ≤ℤ interval.hi)
    → leaves_out interval point ≡ false
test_from_inside interval point h = grind (arith, ints)

-- what lies below the low end of the meet or above its high end does so for one of the two, and the other way round
meet_either : (below above : ℤ → Type 0) → ((x y : ℤ) → x ≤ℤ y → below x → below y)
    → ((x y : ℤ) → x ≤ℤ y → above y → above x) → (a b both : Interval) → both.lo ≡ int_max a.lo b.lo
    → both.hi ≡ int_min a.hi b.hi
    → (below both.lo ⊎ above both.hi) ↔ ((below a.lo ⊎ above a.hi) ⊎ (below b.lo ⊎ above b.hi))
meet_either below above rises falls a b both lo hi = (
  ⊎_elim
      (λ h. ⊎_elim (λ k. inl (inl (subst below (lo ∙ k) h))) (λ k. inr (inl (subst below (lo ∙ k) h)))
      (int_max_or a.lo b.lo))
      (λ h. ⊎_elim (λ k. inl (inr (subst above (hi ∙ k) h))) (λ k. inr (inr (subst above (hi ∙ k) h)))
      (int_min_or a.hi b.hi)),
  ⊎_elim
      (⊎_elim (λ h. inl (rises a.lo both.lo (omega (arith, ints, clamps)) h))
      (λ h. inr (falls both.hi a.hi (omega (arith, ints, clamps)) h)))
      (⊎_elim (λ h. inl (rises b.lo both.lo (omega (arith, ints, clamps)) h))
      (λ h. inr (falls both.hi b.hi (omega (arith, ints, clamps)) h))),
)

-- a point is left out by the meet exactly if one of the two leaves it out
pub meet_leaves_out : (a b both : Interval) → both.lo ≡ int_max a.lo b.lo → both.hi ≡ int_min a.hi b.hi → (point : ℤ)
    → LeavesOut both point ↔ (LeavesOut a point ⊎ LeavesOut b point)
meet_leaves_out a b both lo hi point = grind (arith, meet_either)

-- the same for a fraction
pub meet_leaves_fraction_out : (a b both : Interval) (e : ℤ) (n : ℕ) → both.lo ≡ int_max a.lo b.lo
    → both.hi ≡ int_min a.hi b.hi → LeavesFractionOut both e n ↔ (LeavesFractionOut a e n ⊎ LeavesFractionOut b e n)
meet_leaves_fraction_out a b both e n lo hi =
    meet_either (λ z. e <ℤ (z *ℤ pos n)) (λ z. (z *ℤ pos n) <ℤ e)
    (λ x y le h. omega (arith, ints, times_le x y n le)) (λ x y le h. omega (arith, ints, times_le x y n le))
    a b both lo hi
