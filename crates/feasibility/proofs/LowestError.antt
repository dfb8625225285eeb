-- The lowest error rises and falls no faster than it may, and keeps every mark.
use Rattle.feasibility.proofs.Common.{◌≡◌, ℕ, ◌+◌, ◌-◌, ◌*◌, ◌≤◌, ℤ, pos, ◌+ℤ◌, ◌-ℤ◌, ◌*ℤ◌, ◌≤ℤ◌, unsigned_abs, List, [], ◌∷◌, arith, All, fold, int_max, ints, clamps, by_lt_z, All-nil, All-cons, All-head, All-tail, mul-le-mul_left, Mark, DriftsWithin, billion, fineness_of, most_rise, most_fall, error_left, lowest_error, lowest_moment, ≤ℤ_refl, int_max-least}
use Rattle.feasibility.proofs.Scaling.{scaled_beyond}
use Rattle.feasibility.proofs.Slope.{Changes, Changes-asked, Changes-greatest}
use Rattle.feasibility.proofs.AllowedDrift.{drifts, drifts_back, no_sooner}

-- ---- the greatest of several numbers

first_of_two : (a b c : ℤ) → int_max a b ≤ℤ c → a ≤ℤ c
first_of_two a b c h = omega (arith, ints, clamps)

second_of_two : (a b c : ℤ) → int_max a b ≤ℤ c → b ≤ℤ c
second_of_two a b c h = omega (arith, ints, clamps)

module _ {X : Type 0} (f : X → ℤ) where
  -- it is no less than the first
  pub first_at_most : (a : ℤ) (xs : List X) → a ≤ℤ fold (λ c x. int_max c (f x)) a xs
  first_at_most a [] = ≤ℤ_refl a
  first_at_most a (x ∷ xs) = first_of_two a (f x) _ (first_at_most (int_max a (f x)) xs)

  -- nor than any other
  pub each_at_most : (a : ℤ) (xs : List X) → All (λ x. f x ≤ℤ fold (λ c x. int_max c (f x)) a xs) xs
  each_at_most a [] = All-nil (λ x. f x ≤ℤ a)
  each_at_most a (x ∷ xs) =
      let top = fold (λ c x. int_max c (f x)) (int_max a (f x)) xs in
      All-cons (λ y. f y ≤ℤ top) x xs (second_of_two a (f x) top (first_at_most (int_max a (f x)) xs))
      (each_at_most (int_max a (f x)) xs)

  -- and it is no more than what none of them is beyond
  pub all_at_most : (a c : ℤ) (xs : List X) → a ≤ℤ c → All (λ x. f x ≤ℤ c) xs → fold (λ c x. int_max c (f x)) a xs ≤ℤ c
  all_at_most a c [] first all = first
  all_at_most a c (x ∷ xs) first all =
      all_at_most (int_max a (f x)) c xs (int_max-least a (f x) c first (All-head (λ x. f x ≤ℤ c) x xs all))
      (All-tail (λ x. f x ≤ℤ c) x xs all)

-- ---- its rise and fall

module _ (ppb : ℕ) (slow : ppb ≤ 500000000) (first : Mark) (others : List Mark) where
  pub Changes-lowest_error : (c c' : ℤ) (d : ℕ) → c' ≡ c +ℤ pos d
      → Changes (most_rise ppb * d) (most_fall ppb * d) (lowest_error ppb first others c)
      (lowest_error ppb first others c')
  Changes-lowest_error c c' d further =
      let steeper : most_rise ppb ≤ most_fall ppb = mul-le-mul_left ppb (omega arith) in
      let each = λ (mark : Mark). Changes-asked (most_rise ppb) (most_fall ppb) steeper
      (mark.error *ℤ pos (fineness_of ppb)) mark.place c c' d further in
      Changes-greatest (most_rise ppb * d) (most_fall ppb * d) (error_left ppb c) (error_left ppb c') each
      (error_left ppb c first) (error_left ppb c' first) others (each first)

  -- the two parts of a billion
  module _ (c c' : ℤ) (d : ℕ) (further : c' ≡ c +ℤ pos d) where
    advance : (c' *ℤ pos (fineness_of ppb)) ≡ (c *ℤ pos (fineness_of ppb))
        +ℤ pos (d * ((billion - ppb) * ((billion - ppb) + ppb + ppb)))
    advance =
        let whole : billion + ppb ≡ (billion - ppb) + ppb + ppb = omega arith in
        rw (← whole) (scaled_beyond c c' d (fineness_of ppb) further)

    changes : Changes (ppb * (billion - ppb) * d) (ppb * ((billion - ppb) + ppb + ppb) * d)
        (lowest_error ppb first others c) (lowest_error ppb first others c')
    changes =
        let whole : billion + ppb ≡ (billion - ppb) + ppb + ppb = omega arith in
        rw (← whole) (Changes-lowest_error c c' d further)

    drift_on : DriftsWithin ppb (lowest_moment ppb first others c) (lowest_moment ppb first others c')
    drift_on =
        grind (
          arith,
          drifts (billion - ppb) ppb d (c *ℤ pos (fineness_of ppb)) (c' *ℤ pos (fineness_of ppb))
              (lowest_error ppb first others c) (lowest_error ppb first others c') advance changes,
        )

    drift_back : DriftsWithin ppb (lowest_moment ppb first others c') (lowest_moment ppb first others c)
    drift_back =
        grind (
          arith,
          drifts_back (billion - ppb) ppb d (c *ℤ pos (fineness_of ppb)) (c' *ℤ pos (fineness_of ppb))
              (lowest_error ppb first others c) (lowest_error ppb first others c') advance changes,
        )

    time_on : (lowest_moment ppb first others c).time ≤ℤ (lowest_moment ppb first others c').time
    time_on =
        no_sooner (billion - ppb) ppb d (c *ℤ pos (fineness_of ppb)) (c' *ℤ pos (fineness_of ppb))
        (lowest_error ppb first others c) (lowest_error ppb first others c') advance changes

  pub lowest_drifts : (c c' : ℤ)
      → DriftsWithin ppb (lowest_moment ppb first others c) (lowest_moment ppb first others c')
  lowest_drifts c c' = by_lt_z c' c
      (λ back. drift_back c' c (unsigned_abs (c -ℤ c')) (omega (arith, ints)))
      (λ forth. drift_on c c' (unsigned_abs (c' -ℤ c)) (omega (arith, ints)))

  pub lowest_time_goes_on : (c c' : ℤ) → c ≤ℤ c'
      → (lowest_moment ppb first others c).time ≤ℤ (lowest_moment ppb first others c').time
  lowest_time_goes_on c c' forth = time_on c c' (unsigned_abs (c' -ℤ c)) (omega (arith, ints))
