-- A low mark and a high mark that two moments of one clock keep: over numbers of one fineness.
--
-- The marks stand as moments too: their place as a reading, and the true time that they speak of.
use Rattle.feasibility.proofs.Common.{◌≡◌, ℕ, ◌+◌, ◌-◌, ◌*◌, ◌<◌, ◌≤◌, pos, ◌+ℤ◌, ◌-ℤ◌, ◌≤ℤ◌, ◌<ℤ◌, unsigned_abs, refl, arith, ints, by_lt_z, mul-le-mul_left, Moment, error_of}
use Rattle.feasibility.proofs.Steps.{Drifts, Drifts-turned, rises_by, falls_by}

-- ---- over natural numbers: the marks ask for x, and the errors differ by y over an advance of r

over_advance : (g p x y r d : ℕ) → x ≤ y → r ≤ d → g * y ≤ p * r → g * x ≤ p * d
over_advance g p x y r d asks within h = omega (arith, mul-le-mul_left g asks, mul-le-mul_left p within)

over_return : (g p x y r d : ℕ) → x + r + d ≤ y → (g + p + p) * y ≤ p * r → g * x ≤ p * d
over_return g p x y r d asks h = omega (arith, mul-le-mul_left (g + p + p) asks)

over_rest : (g p x y k d : ℕ) → x + k ≤ y → (g + p + p) * y ≤ p * (d + k) → (g + p + p) * x ≤ p * d
over_rest g p x y k d asks h = omega (arith, mul-le-mul_left (g + p + p) asks)

-- ---- the two moments and the two marks

-- the first moment keeps the low mark, and the second the high one
pub record TwoKept (g p : ℕ) (a b low high : Moment) : Type 0 where
  pub drifts : Drifts g p a b
  pub reached : low.reading ≤ℤ a.reading
  pub in_time : a.time ≤ℤ low.time
  pub not_past : b.reading ≤ℤ high.reading
  pub no_sooner : high.time ≤ℤ b.time

module _ {g p : ℕ} {a b low high : Moment} (kept : TwoKept g p a b low high) (x d : ℕ)
    (asks : error_of low -ℤ error_of high ≡ pos x) where
  -- the errors of the two moments differ by what the marks ask for, or more
  differ : (y : ℕ) → y ≡ unsigned_abs (error_of a -ℤ error_of b) → error_of a -ℤ error_of b ≡ pos y
  differ y is = let k = kept in omega (arith, ints)

  pub ahead : high.reading ≡ low.reading +ℤ pos d → g * x ≤ p * d
  ahead at = by_lt_z b.reading a.reading
      (λ back.
      let r : ℕ = unsigned_abs (a.reading -ℤ b.reading) in
      let y : ℕ = unsigned_abs (error_of a -ℤ error_of b) in
      over_return g p x y r d (omega (arith, ints, kept))
      (rises_by (Drifts-turned kept.drifts) r y (omega (arith, ints)) (differ y refl)))
      (λ forth.
      let r : ℕ = unsigned_abs (b.reading -ℤ a.reading) in
      let y : ℕ = unsigned_abs (error_of a -ℤ error_of b) in
      over_advance g p x y r d (omega (arith, ints, kept)) (omega (arith, ints, kept))
      (falls_by kept.drifts r y (omega (arith, ints)) (differ y refl)))

  pub behind : low.reading ≡ high.reading +ℤ pos d → 0 < d → (g + p + p) * x ≤ p * d
  behind at some =
      let back : b.reading <ℤ a.reading = omega (arith, ints, kept) in
      let r : ℕ = unsigned_abs (a.reading -ℤ b.reading) in
      let y : ℕ = unsigned_abs (error_of a -ℤ error_of b) in
      let rest : r ≡ d + (r - d) = omega (arith, ints, kept) in
      let step : (g + p + p) * y ≤ p * r =
      rises_by (Drifts-turned kept.drifts) r y (omega (arith, ints)) (differ y refl) in
      over_rest g p x y (r - d) d (omega (arith, ints, kept)) (rw (← rest) step)
