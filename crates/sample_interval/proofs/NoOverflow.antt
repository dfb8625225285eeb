-- Numbers that 128 bits keep as they are.
use Rattle.std.proofs.lemmas.Bool.Decides.{nat_tests}
use Rattle.sample_interval.proofs.Common.{◌≡◌, ◌^◌, ◌<◌, ◌≤◌, ◌≤ℤ◌, ℤ, pos, ◌+ℤ◌, ◌-ℤ◌, arith, unsigned_abs, to_z, of_z, FitsSigned, ap, ◌∙◌, w128, ints, to_z-of_z, fits_signed_from_abs, IsInRange, w128_keeps}

-- a sum and a difference too
pub kept_sum : (a b : ℤ) → unsigned_abs a ≤ 2 ^ 100 → unsigned_abs b ≤ 2 ^ 100 →
    to_z w128 (of_z w128 (to_z w128 (of_z w128 a) +ℤ to_z w128 (of_z w128 b))) ≡ a +ℤ b
kept_sum a b p q = grind (arith, ints, nat_tests, w128_keeps)

-- a bound that the number is passed with, too
pub kept_tick : (a : ℤ) → unsigned_abs a ≤ 2 ^ 71 → unsigned_abs (to_z w128 (of_z w128 a)) ≤ 2 ^ 71
kept_tick a h = rw (w128_keeps a (omega arith)) h

pub kept_doubled : (a : ℤ) → unsigned_abs a ≤ 2 ^ 73 → unsigned_abs (to_z w128 (of_z w128 a)) ≤ 2 ^ 73
kept_doubled a h = rw (w128_keeps a (omega arith)) h

-- a number in an exchange's range
tick_of : (a : ℤ) → IsInRange a → unsigned_abs a ≤ 2 ^ 71
tick_of a h = omega (arith, ints)

pub kept_stamp : (a : ℤ) → IsInRange a → unsigned_abs (to_z w128 (of_z w128 a)) ≤ 2 ^ 71
kept_stamp a h = kept_tick a (tick_of a h)

-- a number from zero to a second is kept as it is
pub kept_positive : (a : ℤ) → FitsSigned w128 a → pos 0 ≤ℤ a → pos 0 ≤ℤ to_z w128 (of_z w128 a)
kept_positive a fits h = rw (to_z-of_z w128 a fits) h

pub kept_second : (a : ℤ) → FitsSigned w128 a → a ≤ℤ pos (2 ^ 32) → to_z w128 (of_z w128 a) ≤ℤ pos (2 ^ 32)
kept_second a fits h = rw (to_z-of_z w128 a fits) h

pub ruleset kept = (kept_tick, kept_doubled, kept_stamp, kept_positive, kept_second)

pub stamp_is : (a : ℤ) → IsInRange a → to_z w128 (of_z w128 a) ≡ a
stamp_is a h = let le : unsigned_abs a ≤ 2 ^ 71 = tick_of a h in w128_keeps a (omega arith)

-- an end of a window that is made of a kept reading
pub end_is : (end : ℤ → ℤ) (reading a : ℤ) → FitsSigned w128 reading → unsigned_abs a ≤ 2 ^ 71 →
    a ≡ end (to_z w128 (of_z w128 reading)) → to_z w128 (of_z w128 a) ≡ end reading
end_is end reading a fits le made = w128_keeps a (omega arith) ∙ made ∙ ap end (to_z-of_z w128 reading fits)

-- a tick less a stamp, and then less or with a distance
module _ (a b d : ℤ) (tick : unsigned_abs a ≤ 2 ^ 71) (stamp : IsInRange b) (distance : IsInRange d) where
  rest_small : unsigned_abs (a -ℤ b) ≤ 2 ^ 72
  rest_small = let le = tick_of b stamp in omega (arith, ints)

  rest_is : to_z w128 (of_z w128 (to_z w128 (of_z w128 a) -ℤ to_z w128 (of_z w128 b))) ≡ a -ℤ b
  rest_is = rw (w128_keeps a (omega arith), stamp_is b stamp) (w128_keeps (a -ℤ b) (let le = rest_small in omega arith))

  less_small : unsigned_abs (a -ℤ b -ℤ d) < 2 ^ 127
  less_small = let le = tick_of d distance in let less = rest_small in omega (arith, ints)

  more_small : unsigned_abs (a -ℤ b +ℤ d) < 2 ^ 127
  more_small = let le = tick_of d distance in let less = rest_small in omega (arith, ints)

  pub rest_fits : FitsSigned w128 (to_z w128 (of_z w128 a) -ℤ to_z w128 (of_z w128 b))
  rest_fits = grind (arith, ints, nat_tests, w128_keeps, stamp_is, rest_small)

  pub less_fits : FitsSigned w128
      (to_z w128 (of_z w128 (to_z w128 (of_z w128 a) -ℤ to_z w128 (of_z w128 b))) -ℤ to_z w128 (of_z w128 d))
  less_fits = rw (rest_is, stamp_is d distance) (fits_signed_from_abs w128 (a -ℤ b -ℤ d) less_small)

  pub more_fits : FitsSigned w128
      (to_z w128 (of_z w128 (to_z w128 (of_z w128 a) -ℤ to_z w128 (of_z w128 b))) +ℤ to_z w128 (of_z w128 d))
  more_fits = rw (rest_is, stamp_is d distance) (fits_signed_from_abs w128 (a -ℤ b +ℤ d) more_small)

  pub less_is : to_z w128 (of_z w128
      (to_z w128 (of_z w128 (to_z w128 (of_z w128 a) -ℤ to_z w128 (of_z w128 b))) -ℤ to_z w128 (of_z w128 d)))
      ≡ a -ℤ b -ℤ d
  less_is = rw (rest_is, stamp_is d distance) (w128_keeps (a -ℤ b -ℤ d) less_small)

  pub more_is : to_z w128 (of_z w128
      (to_z w128 (of_z w128 (to_z w128 (of_z w128 a) -ℤ to_z w128 (of_z w128 b))) +ℤ to_z w128 (of_z w128 d)))
      ≡ a -ℤ b +ℤ d
  more_is = rw (rest_is, stamp_is d distance) (w128_keeps (a -ℤ b +ℤ d) more_small)

pub ruleset distances_fit = (less_fits, more_fits)
