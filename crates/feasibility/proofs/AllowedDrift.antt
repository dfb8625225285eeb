-- An error that rises and falls no faster than it may, as a drift: over plain numbers.
--
-- With b = g + p and a fineness of g * (b + p), it rises by at most p * g parts of a tick for each
-- tick of the clock, and falls by at most p * (b + p).
use Rattle.feasibility.proofs.Common.{◌≡◌, ℕ, ◌+◌, ◌*◌, ◌≤◌, ℤ, pos, ◌+ℤ◌, ◌-ℤ◌, ◌≤ℤ◌, unsigned_abs, ap, arith, ints, by_lt_z, mul-le-mul_left}
use Rattle.feasibility.proofs.Slope.{Changes}

allowed_rise : (g p x d t : ℕ) → x ≤ p * g * d → t + x ≡ d * (g * (g + p + p)) → (g + p) * x ≤ p * t
allowed_rise g p x d t slow sum = omega (arith, mul-le-mul_left (g + p + p) slow, ap (λ (n : ℕ). p * n) sum)

allowed_fall : (g p y d t : ℕ) → y ≤ p * (g + p + p) * d → t ≡ d * (g * (g + p + p)) + y → (g + p) * y ≤ p * t
allowed_fall g p y d t slow sum = omega (arith, mul-le-mul_left g slow, ap (λ (n : ℕ). p * n) sum)

within_advance : (g p d : ℕ) → p * g * d ≤ d * (g * (g + p + p))
within_advance g p d = omega arith

module _ (g p d : ℕ) (r r' e e' : ℤ) (further : r' ≡ r +ℤ pos (d * (g * (g + p + p))))
    (changes : Changes (p * g * d) (p * (g + p + p) * d) e e') where
  -- true time doesn't go back
  pub no_sooner : (r -ℤ e) ≤ℤ (r' -ℤ e')
  no_sooner = let most = within_advance g p d in omega (arith, ints, changes)

  pub drifts : (g + p) * unsigned_abs ((r' -ℤ (r' -ℤ e')) -ℤ (r -ℤ (r -ℤ e)))
      ≤ p * unsigned_abs ((r' -ℤ e') -ℤ (r -ℤ e))
  drifts =
      let most = within_advance g p d in
      let size : ℕ = unsigned_abs ((r' -ℤ (r' -ℤ e')) -ℤ (r -ℤ (r -ℤ e))) in
      let time : ℕ = unsigned_abs ((r' -ℤ e') -ℤ (r -ℤ e)) in
      by_lt_z e' e
      (λ lower. allowed_fall g p size d time (omega (arith, ints, changes)) (omega (arith, ints, changes)))
      (λ no_lower. allowed_rise g p size d time (omega (arith, ints, changes)) (omega (arith, ints, changes)))

  pub drifts_back : (g + p) * unsigned_abs ((r -ℤ (r -ℤ e)) -ℤ (r' -ℤ (r' -ℤ e')))
      ≤ p * unsigned_abs ((r -ℤ e) -ℤ (r' -ℤ e'))
  drifts_back =
      let forth = drifts in
      let size : unsigned_abs ((r -ℤ (r -ℤ e)) -ℤ (r' -ℤ (r' -ℤ e')))
      ≡ unsigned_abs ((r' -ℤ (r' -ℤ e')) -ℤ (r -ℤ (r -ℤ e))) = omega (arith, ints) in
      let time : unsigned_abs ((r -ℤ e) -ℤ (r' -ℤ e')) ≡ unsigned_abs ((r' -ℤ e') -ℤ (r -ℤ e)) = omega (arith, ints) in
      rw (size, time) forth
