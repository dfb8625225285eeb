-- The widening as a least number, and the drift by the clock's own readings.
use Rattle.std.proofs.lemmas.Bool.Decides.{nat_tests}
use Rattle.sample_interval.proofs.Common.{◌≡◌, ℕ, zero, suc, ◌+◌, ◌-◌, ◌*◌, ◌^◌, ◌<◌, ◌≤◌, ℤ, pos, ◌-ℤ◌, ◌≤ℤ◌, unsigned_abs, ◌⊎◌, inl, inr, ⊎_elim, ◌↔◌, refl, arith, subst, ints, IsRate, IsWidening, widening, billion, Moment, error_change, DriftsWithin, DriftsWithinByReading, rules}
use Rattle.std.proofs.Math.Nat.{mul-le-mul_left, mul-le-mul_right}
use Rattle.std.specs.Int.{div_ceil}

-- with g + ppb for 10^9: the change of the error by the change of the readings
by_reading : (g ppb e t r : ℕ) → t ≤ e + r → (g + ppb) * e ≤ ppb * t → g * e ≤ ppb * r
by_reading g ppb e t r near h = omega (arith, mul-le-mul_left ppb near)

pub drift_by_reading : (ppb : ℕ) (a b : Moment) → ppb ≤ billion → DriftsWithin ppb a b → DriftsWithinByReading ppb a b
drift_by_reading ppb a b le h =
    let g : ℕ = billion - ppb in
    let e : ℕ = error_change a b in
    let t : ℕ = unsigned_abs (b.time -ℤ a.time) in
    let whole : billion ≡ g + ppb = omega arith in
    by_reading g ppb e t (unsigned_abs (b.reading -ℤ a.reading)) (omega (arith, ints))
    (subst (λ (x : ℕ). x * e ≤ ppb * t) whole h)

-- what the code divides
pub IsWidening-div_ceil : (rate distance q ppb d : ℕ) → ppb < billion → rate ≡ ppb → distance ≡ d →
    q ≡ div_ceil (rate * distance) (billion - rate) → IsWidening ppb d q
IsWidening-div_ceil rate distance q ppb d h a b e = grind (arith, ints, nat_tests)

pub IsWidening-one_number : (ppb distance v w : ℕ) → IsWidening ppb distance v → IsWidening ppb distance w → v ≡ w
IsWidening-one_number ppb distance v w h k = search rules

-- at rates up to a half
pub IsWidening-le_distance : (ppb distance w : ℕ) → IsRate ppb → IsWidening ppb distance w → w ≤ distance
IsWidening-le_distance ppb distance w h is =
    let rate : ppb * distance ≤ (billion - ppb) * distance = mul-le-mul_right distance (omega arith) in
    is.least distance (omega arith)

-- the code's numbers fit their types
module _ (rate ppb : ℕ) (is_rate : IsRate ppb) (same : rate ≡ ppb) where
  pub rate_below : rate ≤ 1000000000
  rate_below = omega arith

  pub parts_left : 0 < 1000000000 - rate
  parts_left = omega arith

pub within_a_word : (n : ℕ) (distance : ℤ) → pos 0 ≤ℤ distance → distance ≤ℤ pos (2 ^ 80) → n ≤ unsigned_abs distance →
    n < 2 ^ 127
within_a_word n distance from to le = omega (arith, ints)

pub at_most : (n : ℕ) (distance : ℤ) → pos 0 ≤ℤ distance → n ≤ unsigned_abs distance → pos n ≤ℤ distance
at_most n distance from le = omega (arith, ints)

product_zero : (a b : ℕ) → a * b ≤ 0 → (a ≡ 0) ⊎ (b ≡ 0)
product_zero zero b h = inl refl
product_zero (suc a) zero h = inr refl
product_zero (suc a) (suc b) h = absurd (omega arith)

-- the law that every distance has its widening
abbrev pub HaveWidenings : Type 0
HaveWidenings = (ppb distance : ℕ) → ppb < billion → IsWidening ppb distance (widening ppb distance)

module _ (is : HaveWidenings) where
  pub widening-mono_distance : (ppb near far : ℕ) → ppb < billion → near ≤ far → widening ppb near ≤ widening ppb far
  widening-mono_distance ppb near far h le = grind (arith, ints, nat_tests, is ppb far h, mul-le-mul_left ppb le)

  pub widening-mono_rate : (slow fast distance : ℕ) → fast < billion → slow ≤ fast →
      widening slow distance ≤ widening fast distance
  widening-mono_rate slow fast distance h le =
      let w = is fast distance h in
      let less : slow * distance ≤ fast * distance = mul-le-mul_right distance le in
      let more : widening fast distance * (billion - fast) ≤ widening fast distance * (billion - slow) =
      mul-le-mul_left (widening fast distance) (omega arith) in
      (is slow distance (omega arith)).least (widening fast distance) (omega (arith, w.not_below))

  pub widening-zero : (ppb distance : ℕ) → ppb < billion → (widening ppb distance ≡ 0) ↔ ((ppb ≡ 0) ⊎ (distance ≡ 0))
  widening-zero ppb distance h =
      let w = is ppb distance h in (
        λ e. product_zero ppb distance
            (let none : ppb * distance ≤ 0 * (billion - ppb) =
            subst (λ (v : ℕ). ppb * distance ≤ v * (billion - ppb)) e w.not_below in omega arith),
        ⊎_elim
            (λ (e : ppb ≡ 0). let least = w.least 0 (rw e (omega arith)) in omega arith)
            (λ (e : distance ≡ 0). let least = w.least 0 (rw e (omega arith)) in omega arith),
      )

pub ruleset widening_mono = (widening-mono_distance, widening-zero)
