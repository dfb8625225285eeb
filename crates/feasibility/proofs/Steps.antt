-- How far the error changes by what the clock advances: with g + p parts for a billion, p the rate.
use Rattle.feasibility.proofs.Common.{◌≡◌, ℕ, zero, suc, ◌+◌, ◌*◌, ◌<◌, ◌≤◌, pos, ◌+ℤ◌, ◌-ℤ◌, ◌≤ℤ◌, unsigned_abs, ap, arith, ints, by_lt_z, le_of_mul-le-mul_right, lt_of_mul-lt-mul_right, mul-le-mul_left, mul-le-mul_right, Moment, error_of, error_change}

-- ---- over natural numbers: a change of x or y in the time t, an advance of d

rise : (g p x d t : ℕ) → t + x ≡ d → (g + p) * x ≤ p * t → (g + p + p) * x ≤ p * d
rise g p x d t sum h = omega (arith, ap (λ (n : ℕ). p * n) sum)

-- if the clock advanced by less than its error rose, there was no rise
no_rise : (g p x d t : ℕ) → 0 < g → t + d ≡ x → (g + p) * x ≤ p * t → (g + p + p) * x ≤ p * d
no_rise g p zero d t some sum h = omega arith
no_rise g p (suc x) d t some sum h =
    let whole : p * (t + d) ≡ p * suc x = ap (λ (n : ℕ). p * n) sum in
    let one : g * 1 ≤ g * suc x = mul-le-mul_left g (omega arith) in
    absurd (omega arith)

fall : (g p y d t : ℕ) → d + y ≡ t → (g + p) * y ≤ p * t → g * y ≤ p * d
fall g p y d t sum h = omega (arith, ap (λ (n : ℕ). p * n) sum)

-- ---- between two moments

-- from the one moment to the other the error drifts within the rate
pub record Drifts (g p : ℕ) (a b : Moment) : Type 0 where
  pub some : 0 < g
  pub within : (g + p) * error_change a b ≤ p * unsigned_abs (b.time -ℤ a.time)

pub Drifts-turned : {g p : ℕ} {a b : Moment} (h : Drifts g p a b) → Drifts g p b a
Drifts-turned {g} {p} {a} {b} h = grind (arith, ints)

module _ {g p : ℕ} {a b : Moment} (h : Drifts g p a b) where
  -- the second moment r later by the clock: a rise of y, or a fall of y
  pub rises_by : (r y : ℕ) → b.reading ≡ a.reading +ℤ pos r → error_of b -ℤ error_of a ≡ pos y → (g + p + p) * y ≤ p * r
  rises_by r y further change =
      let time : ℕ = unsigned_abs (b.time -ℤ a.time) in
      let size : error_change a b ≡ y = omega (arith, ints) in
      let within : (g + p) * y ≤ p * time = rw (← size) h.within in
      by_lt_z (pos r) (pos y)
      (λ less. no_rise g p y r time h.some (omega (arith, ints)) within)
      (λ no_less. rise g p y r time (omega (arith, ints)) within)

  pub falls_by : (r y : ℕ) → b.reading ≡ a.reading +ℤ pos r → error_of a -ℤ error_of b ≡ pos y → g * y ≤ p * r
  falls_by r y further change =
      let time : ℕ = unsigned_abs (b.time -ℤ a.time) in
      let size : error_change a b ≡ y = omega (arith, ints) in
      let within : (g + p) * y ≤ p * time = rw (← size) h.within in
      fall g p y r time (omega (arith, ints)) within

  -- readings are in the order of true times
  pub readings_go_on : a.time ≤ℤ b.time → a.reading ≤ℤ b.reading
  readings_go_on forth =
      let time : ℕ = unsigned_abs (b.time -ℤ a.time) in
      let some = h.some in
      let within = h.within in
      let less : p * time ≤ (g + p) * time = mul-le-mul_right time (omega arith) in
      let scaled : error_change a b * (g + p) ≤ time * (g + p) = omega arith in
      let le : error_change a b ≤ time = le_of_mul-le-mul_right scaled (omega arith) in
      omega (arith, ints)

  -- and true times in the order of readings
  pub times_go_on : a.reading ≤ℤ b.reading → a.time ≤ℤ b.time
  times_go_on forth = by_lt_z b.time a.time
      (λ back.
      let time : ℕ = unsigned_abs (b.time -ℤ a.time) in
      let some = h.some in
      let within = h.within in
      let more : (suc p) * time ≤ (g + p) * time = mul-le-mul_right time (omega arith) in
      let some_time : 0 < time = omega (arith, ints) in
      let scaled : error_change a b * (g + p) < time * (g + p) = omega arith in
      let lt : error_change a b < time = lt_of_mul-lt-mul_right (g + p) scaled in
      absurd (omega (arith, ints)))
      (λ no_back. no_back)
