-- The greatest distance between a window and a piece, and what it moves.
use Rattle.std.proofs.Common.{rules}
use Rattle.span_cover.proofs.Common.{◌≡◌, ℕ, ◌+◌, ◌-◌, ◌*◌, ◌^◌, ◌<◌, ◌≤◌, ℤ, pos, ◌+ℤ◌, ◌-ℤ◌, ◌*ℤ◌, ◌≤ℤ◌, unsigned_abs, refl, arith, to_z, of_z, FitsSigned, negsuc, w128, ints, clamps, IsRate, IsWidening, widening, billion, Sample, IsPiece, farthest, change, moved_low, moved_high, nat_tests}
use Rattle.std.proofs.Math.Nat.{le_of_mul-le-mul_right, mul-le-mul_left, mul-le-mul_right}
use Rattle.intersection.specs.Fineness.{times_le, times-add}
use Rattle.sample_interval.specs.Moment.{Moment, error_of, error_change, DriftsWithinByReading, IsInWindow}
use Rattle.sample_interval.specs.Moment.{IsOffAtLeast, IsOffAtMost}

pub farthest-bounds : (from to p q : ℤ) → unsigned_abs from ≤ 2 ^ 72 → unsigned_abs to ≤ 2 ^ 72 → from ≤ℤ to →
    IsPiece p q → (pos 0 ≤ℤ farthest from to p q) × (farthest from to p q ≤ℤ pos (2 ^ 73))
farthest-bounds from to p q a b c d = (omega (arith, ints, clamps), omega (arith, ints, clamps))

-- a distance that the code computes
pub farthest-kept : (from to p q r : ℤ) → unsigned_abs from ≤ 2 ^ 72 → unsigned_abs to ≤ 2 ^ 72 → IsPiece p q →
    FitsSigned w128 r →
    r ≡ farthest (to_z w128 (of_z w128 from)) (to_z w128 (of_z w128 to)) (to_z w128 (of_z w128 p))
    (to_z w128 (of_z w128 q)) →
    to_z w128 (of_z w128 r) ≡ farthest from to p q
farthest-kept from to p q r a b piece fits e = search rules

-- no reading of the piece is further from the moment
pub within_farthest : (from to p q moment reading : ℤ) → from ≤ℤ moment → moment ≤ℤ to → p ≤ℤ reading → reading ≤ℤ q →
    pos (unsigned_abs (reading -ℤ moment)) ≤ℤ farthest from to p q
within_farthest from to p q moment reading a b c d = omega (arith, ints, clamps)

farthest-narrower : (from to p q inner outer : ℤ) → from ≤ℤ to → p ≤ℤ inner → inner ≤ℤ outer → outer ≤ℤ q →
    unsigned_abs (farthest from to inner outer) ≤ unsigned_abs (farthest from to p q)
farthest-narrower from to p q inner outer a b c d = omega (arith, ints, clamps)

less_moved : (end near far : ℤ) → near ≤ℤ far → ((end -ℤ far) ≤ℤ (end -ℤ near)) × ((end +ℤ near) ≤ℤ (end +ℤ far))
less_moved end near far h = (omega (arith, ints), omega (arith, ints))

-- the law that a larger distance has no lesser widening
abbrev pub Grows : Type 0
Grows = (ppb near far : ℕ) → ppb < billion → near ≤ far → widening ppb near ≤ widening ppb far

module _ (grows : Grows) where
  change-narrower : (from to p q inner outer : ℤ) (ppb : ℕ) → ppb < billion → from ≤ℤ to → p ≤ℤ inner → inner ≤ℤ outer →
      outer ≤ℤ q → change from to inner outer ppb ≤ℤ change from to p q ppb
  change-narrower from to p q inner outer ppb h a b c d =
      omega (arith, ints, grows ppb _ _ h (farthest-narrower from to p q inner outer a b c d))

  pub moved_low-narrower : (ppb : ℕ) (sample : Sample) (p q inner outer : ℤ) → ppb < billion →
      sample.low_from ≤ℤ sample.low_to → p ≤ℤ inner → inner ≤ℤ outer → outer ≤ℤ q →
      moved_low sample p q ppb ≤ℤ moved_low sample inner outer ppb
  unfolding moved_low
  moved_low-narrower ppb sample p q inner outer h a b c d =
      (less_moved sample.low _ _ (change-narrower sample.low_from sample.low_to p q inner outer ppb h a b c d)).0

  pub moved_high-narrower : (ppb : ℕ) (sample : Sample) (p q inner outer : ℤ) → ppb < billion →
      sample.high_from ≤ℤ sample.high_to → p ≤ℤ inner → inner ≤ℤ outer → outer ≤ℤ q →
      moved_high sample inner outer ppb ≤ℤ moved_high sample p q ppb
  unfolding moved_high
  moved_high-narrower ppb sample p q inner outer h a b c d =
      (less_moved sample.high _ _ (change-narrower sample.high_from sample.high_to p q inner outer ppb h a b c d)).1

-- ---- the error at a reading of the piece

-- the change of the error, n times over, by the widening of a distance, where the readings are further apart by x
change_within : (n g ppb e r x d w : ℕ) → 0 < g → ppb ≤ g → g * e ≤ ppb * r → r ≤ x + d * n → ppb * d ≤ w * g
    → e ≤ x + w * n
change_within n g ppb e r x d w positive slow drift near wide =
    let far : ppb * r ≤ ppb * (x + d * n) = mul-le-mul_left ppb near in
    let beyond : ppb * x ≤ g * x = mul-le-mul_right x slow in
    let scaled : ppb * d * n ≤ w * g * n = mul-le-mul_right n wide in
    let product : e * g ≤ (x + w * n) * g = omega arith in
    le_of_mul-le-mul_right product positive

abs_times : (z : ℤ) (n : ℕ) → (z *ℤ pos n) ≤ℤ pos (unsigned_abs z * n)
abs_times (pos x) n = omega (arith, ints)
abs_times (negsuc x) n = omega (arith, ints)

-- an end of a window is no further from a reading of a piece than n times the greatest distance
module _ (n : ℕ) (from to p q reading : ℤ) (forward : from ≤ℤ to) (inside : IsInWindow n p q reading) where
  abbrev far : ℤ
  far = farthest from to p q

  apart : (end : ℤ) → from ≤ℤ end → end ≤ℤ to
      → ((reading -ℤ (end *ℤ pos n)) ≤ℤ (far *ℤ pos n)) × (((end *ℤ pos n) -ℤ reading) ≤ℤ (far *ℤ pos n))
  apart end after before =
      omega (
        arith,
        ints,
        times-add q (q -ℤ end) end n (omega (arith, ints)),
        times_le (q -ℤ end) far n (omega (arith, ints, clamps)),
        times-add end (end -ℤ p) p n (omega (arith, ints)),
        times_le (end -ℤ p) far n (omega (arith, ints, clamps)),
      )

  from_start : (moment : ℤ) → (from *ℤ pos n) ≤ℤ moment
      → unsigned_abs (reading -ℤ moment) ≤ unsigned_abs (moment -ℤ (from *ℤ pos n)) + unsigned_abs far * n
  from_start moment after = grind (arith, ints, nat_tests, apart from (omega (arith, ints)) forward)

  to_end : (moment : ℤ) → moment ≤ℤ (to *ℤ pos n)
      → unsigned_abs (reading -ℤ moment) ≤ unsigned_abs ((to *ℤ pos n) -ℤ moment) + unsigned_abs far * n
  to_end moment before = grind (arith, ints, nat_tests, apart to forward (omega (arith, ints)))

no_less : (moved low start reading before after : ℤ) (wide : ℕ) → low ≡ moved +ℤ pos wide → start ≤ℤ reading
    → (low +ℤ (reading -ℤ start)) ≤ℤ before
    → unsigned_abs (after -ℤ before) ≤ unsigned_abs (reading -ℤ start) + wide → moved ≤ℤ after
no_less moved low start reading before after wide a b c d = omega (arith, ints)

no_more : (moved high end reading before after : ℤ) (wide : ℕ) → moved ≡ high +ℤ pos wide → reading ≤ℤ end
    → before ≤ℤ (high -ℤ (end -ℤ reading))
    → unsigned_abs (after -ℤ before) ≤ unsigned_abs (end -ℤ reading) + wide → after ≤ℤ moved
no_more moved high end reading before after wide a b c d = omega (arith, ints)

-- the law that every distance has its widening
abbrev pub HaveWidenings : Type 0
HaveWidenings = (ppb distance : ℕ) → ppb < billion → IsWidening ppb distance (widening ppb distance)

module _ (widens : HaveWidenings) (n ppb : ℕ) (p q : ℤ) (observed : Moment) (rate : IsRate ppb)
    (inside : IsInWindow n p q observed.reading) where
  change_of_error : (x d : ℕ) (a : Moment) → unsigned_abs (observed.reading -ℤ a.reading) ≤ x + d * n
      → DriftsWithinByReading ppb a observed → error_change a observed ≤ x + widening ppb d * n
  change_of_error x d a near drift =
      change_within n (billion - ppb) ppb (error_change a observed) (unsigned_abs (observed.reading -ℤ a.reading)) x d
      (widening ppb d) (omega arith) (omega arith) drift near (widens ppb d (omega arith)).not_below

  pub error_no_less : (sample : Sample) (request : Moment) → sample.low_from ≤ℤ sample.low_to
      → (sample.low_from *ℤ pos n) ≤ℤ request.reading → IsOffAtLeast n sample.low sample.low_from request
      → DriftsWithinByReading ppb request observed → (moved_low sample p q ppb *ℤ pos n) ≤ℤ error_of observed
  unfolding moved_low
  error_no_less sample request forward after least drift =
      let d : ℕ = unsigned_abs (farthest sample.low_from sample.low_to p q) in
      let w : ℕ = widening ppb d in
      let start = sample.low_from *ℤ pos n in
      let parts = times-add sample.low (sample.low -ℤ pos w) (pos w) n (omega (arith, ints)) in
      no_less ((sample.low -ℤ pos w) *ℤ pos n) (sample.low *ℤ pos n) start request.reading (error_of request)
      (error_of observed) (w * n) parts after least
      (change_of_error (unsigned_abs (request.reading -ℤ start)) d request
      (from_start n sample.low_from sample.low_to p q observed.reading forward inside request.reading after) drift)

  pub error_no_more : (sample : Sample) (reply : Moment) → sample.high_from ≤ℤ sample.high_to
      → reply.reading ≤ℤ (sample.high_to *ℤ pos n) → IsOffAtMost n sample.high sample.high_to reply
      → DriftsWithinByReading ppb reply observed → error_of observed ≤ℤ (moved_high sample p q ppb *ℤ pos n)
  unfolding moved_high
  error_no_more sample reply forward before most drift =
      let d : ℕ = unsigned_abs (farthest sample.high_from sample.high_to p q) in
      let w : ℕ = widening ppb d in
      let end = sample.high_to *ℤ pos n in
      let parts = times-add (sample.high +ℤ pos w) sample.high (pos w) n refl in
      no_more ((sample.high +ℤ pos w) *ℤ pos n) (sample.high *ℤ pos n) end reply.reading (error_of reply)
      (error_of observed) (w * n) parts before most
      (change_of_error (unsigned_abs (end -ℤ reply.reading)) d reply
      (to_end n sample.high_from sample.high_to p q observed.reading forward inside reply.reading before) drift)

pub ruleset error_in_interval = (error_no_less, error_no_more)

pub ruleset narrower = (moved_low-narrower, moved_high-narrower)
