-- The lines through a mark, as the code computes them.
use Rattle.error_marks.proofs.Common.{◌≡◌, ℕ, ◌+◌, ◌-◌, ◌^◌, ◌≤◌, ℤ, pos, ◌+ℤ◌, ◌-ℤ◌, ◌*ℤ◌, unsigned_abs, to_z, of_z, FitsSigned, arith, w128, ints, unsigned_abs-mul, fits_signed_from_abs, mul-le-mul_left, billion, IsRate, w128_keeps}

-- what is left of 10^9, and what is more
parts_left : (r : ℤ) (ppb : ℕ) → IsRate ppb → r ≡ pos ppb →
    to_z w128 (of_z w128 (pos 1000000000 -ℤ to_z w128 (of_z w128 r))) ≡ pos (billion - ppb)
parts_left r ppb h is = rw (is, w128_keeps (pos ppb) (omega arith)) (omega (arith, ints))

parts_more : (r : ℤ) (ppb : ℕ) → IsRate ppb → r ≡ pos ppb →
    to_z w128 (of_z w128 (pos 1000000000 +ℤ to_z w128 (of_z w128 r))) ≡ pos (billion + ppb)
parts_more r ppb h is = rw (is, w128_keeps (pos ppb) (omega arith)) (omega (arith, ints))

small_product : (n : ℕ) (a : ℤ) → n ≤ 2 ^ 31 → unsigned_abs a ≤ 2 ^ 73 → unsigned_abs (pos n *ℤ a) ≤ 2 ^ 104
small_product n a p q = grind (arith, unsigned_abs, pos, unsigned_abs-mul, mul-le-mul_left)

-- n times a number, as the code computes it
kept_product : (n : ℕ) (a : ℤ) → n ≤ 2 ^ 31 → unsigned_abs a ≤ 2 ^ 73 →
    (to_z w128 (of_z w128 (pos n *ℤ to_z w128 (of_z w128 a))) ≡ pos n *ℤ a) × (unsigned_abs (pos n *ℤ a) ≤ 2 ^ 104)
kept_product n a p q = grind (arith, small_product, w128_keeps, pos)

-- the products of a mark's two numbers
module _ {r : ℤ} {ppb : ℕ} (rate : IsRate ppb) (is : r ≡ pos ppb) (a : ℤ) (le : unsigned_abs a ≤ 2 ^ 73) where
  pub times_left : (to_z w128 (of_z w128
      (to_z w128 (of_z w128 (pos 1000000000 -ℤ to_z w128 (of_z w128 r))) *ℤ to_z w128 (of_z w128 a)))
      ≡ pos (billion - ppb) *ℤ a) × (unsigned_abs (pos (billion - ppb) *ℤ a) ≤ 2 ^ 104)
  times_left = rw (parts_left r ppb rate is) (kept_product (billion - ppb) a (omega arith) le)

  pub times_more : (to_z w128 (of_z w128
      (to_z w128 (of_z w128 (pos 1000000000 +ℤ to_z w128 (of_z w128 r))) *ℤ to_z w128 (of_z w128 a)))
      ≡ pos (billion + ppb) *ℤ a) × (unsigned_abs (pos (billion + ppb) *ℤ a) ≤ 2 ^ 104)
  times_more = rw (parts_more r ppb rate is) (kept_product (billion + ppb) a (omega arith) le)

  pub times_rate : (to_z w128 (of_z w128 (to_z w128 (of_z w128 r) *ℤ to_z w128 (of_z w128 a))) ≡ pos ppb *ℤ a)
      × (unsigned_abs (pos ppb *ℤ a) ≤ 2 ^ 104)
  times_rate = rw (is, w128_keeps (pos ppb) (omega arith)) (kept_product ppb a (omega arith) le)

-- the code's sum and difference
module _ {a b x y : ℤ} (first : (a ≡ x) × (unsigned_abs x ≤ 2 ^ 104)) (second : (b ≡ y) × (unsigned_abs y ≤ 2 ^ 104))
  where
    pub small_sum : unsigned_abs (x +ℤ y) ≤ 2 ^ 105
    small_sum = let p = first.1 in let q = second.1 in omega (arith, ints)

    pub small_difference : unsigned_abs (x -ℤ y) ≤ 2 ^ 105
    small_difference = let p = first.1 in let q = second.1 in omega (arith, ints)

    pub sum_fits : FitsSigned w128 (a +ℤ b)
    sum_fits = let le = small_sum in rw (first.0, second.0) (fits_signed_from_abs w128 (x +ℤ y) (omega arith))

    pub sum_is : to_z w128 (of_z w128 (a +ℤ b)) ≡ x +ℤ y
    sum_is = let le = small_sum in rw (first.0, second.0) (w128_keeps (x +ℤ y) (omega arith))

    pub difference_is : to_z w128 (of_z w128 (a -ℤ b)) ≡ x -ℤ y
    difference_is = let le = small_difference in rw (first.0, second.0) (w128_keeps (x -ℤ y) (omega arith))
