-- The lowest course keeps every mark: it is no lower than a low mark, and no higher than a high
-- mark with which each low mark is compatible.
use Rattle.feasibility.proofs.Common.{compatible_in_order, ◌≡◌, ℕ, ◌+◌, ◌-◌, ◌*◌, ◌≤◌, ℤ, pos, ◌+ℤ◌, ◌-ℤ◌, ◌*ℤ◌, ◌≤ℤ◌, ◌<ℤ◌, unsigned_abs, List, refl, arith, All, slice_index_or, ints, by_lt_z, All-weaker, mul-le-mul_left, times_le, times-add, Mark, AreCompatible, error_of, billion, KeepsLow, KeepsHigh, fineness_of, most_rise, most_fall, error_left, lowest_error, lowest_moment, ≤ℤ_refl, ≤ℤ_antisymm}
use Rattle.feasibility.proofs.Scaling.{times-sub, product_from}
use Rattle.feasibility.proofs.Slope.{asked_after, asked_before}
use Rattle.feasibility.proofs.LowestError.{first_at_most, each_at_most, all_at_most}

-- ---- over plain numbers: g and s parts, a low mark x above a high one, d away

falls_enough : (g s p x d : ℕ) → g * x ≤ p * d → x * (g * s) ≤ p * s * d
falls_enough g s p x d h = omega (arith, mul-le-mul_left s h)

rises_enough : (g s p x d : ℕ) → s * x ≤ p * d → x * (g * s) ≤ p * g * d
rises_enough g s p x d h = omega (arith, mul-le-mul_left g h)

at_most_high : (low high : ℤ) (n m : ℕ) → ((x : ℕ) → low ≡ high +ℤ pos x → x * n ≤ m)
    → ((low *ℤ pos n) -ℤ pos m) ≤ℤ (high *ℤ pos n)
at_most_high low high n m enough = by_lt_z high low
    (λ above.
    let x : ℕ = unsigned_abs (low -ℤ high) in
    let apart : low ≡ high +ℤ pos x = omega (arith, ints) in
    omega (arith, ints, times-add low high (pos x) n apart, enough x apart))
    (λ no_more. omega (arith, ints, times_le low high n no_more))

module _ (ppb : ℕ) (low high : Mark) (agree : AreCompatible ppb low high) where
  ahead_left : low.place ≤ℤ high.place → error_left ppb high.place low ≤ℤ (high.error *ℤ pos (fineness_of ppb))
  ahead_left forth =
      let d : ℕ = unsigned_abs (high.place -ℤ low.place) in
      let left = asked_after (most_rise ppb) (most_fall ppb) (low.error *ℤ pos (fineness_of ppb)) low.place high.place d
      (omega (arith, ints)) in
      rw left (at_most_high low.error high.error (fineness_of ppb) (most_fall ppb * d)
      (λ x apart. falls_enough (billion - ppb) (billion + ppb) ppb x d (product_from (billion - ppb) ppb x d
      (low.error -ℤ high.error) (high.place -ℤ low.place) (omega (arith, ints)) (omega (arith, ints))
      (agree.falls forth))))

  behind_left : high.place <ℤ low.place → error_left ppb high.place low ≤ℤ (high.error *ℤ pos (fineness_of ppb))
  behind_left back =
      let d : ℕ = unsigned_abs (low.place -ℤ high.place) in
      let left = asked_before (most_rise ppb) (most_fall ppb) (low.error *ℤ pos (fineness_of ppb)) low.place
      high.place d (omega (arith, ints)) (omega (arith, ints)) in
      rw left (at_most_high low.error high.error (fineness_of ppb) (most_rise ppb * d)
      (λ x apart. rises_enough (billion - ppb) (billion + ppb) ppb x d (product_from (billion + ppb) ppb x d
      (low.error -ℤ high.error) (low.place -ℤ high.place) (omega (arith, ints)) (omega (arith, ints))
      (agree.rises back))))

  -- what a low mark leaves at a high mark's place isn't beyond it
  pub left_below : error_left ppb high.place low ≤ℤ (high.error *ℤ pos (fineness_of ppb))
  left_below = by_lt_z high.place low.place behind_left ahead_left

own_place : (ppb : ℕ) (mark : Mark) → error_left ppb mark.place mark ≡ mark.error *ℤ pos (fineness_of ppb)
own_place ppb mark = grind arith

module _ (n : ℕ) (place error found : ℤ) where
  late_enough : (error *ℤ pos n) ≤ℤ found → ((place *ℤ pos n) -ℤ found) ≤ℤ ((place -ℤ error) *ℤ pos n)
  late_enough h = omega (arith, ints, times-sub (place -ℤ error) place error n refl)

  soon_enough : found ≤ℤ (error *ℤ pos n) → ((place -ℤ error) *ℤ pos n) ≤ℤ ((place *ℤ pos n) -ℤ found)
  soon_enough h = omega (arith, ints, times-sub (place -ℤ error) place error n refl)

-- a mark is compatible with itself
pub with_itself : (ppb : ℕ) (mark : Mark) → AreCompatible ppb mark mark
with_itself ppb mark = compatible_in_order ppb mark mark (≤ℤ_refl mark.error)

module _ (ppb : ℕ) (first : Mark) (others : List Mark) where
  no_lower_than_first : (first.error *ℤ pos (fineness_of ppb)) ≤ℤ lowest_error ppb first others first.place
  no_lower_than_first =
      grind (
        arith,
        own_place ppb first,
        first_at_most (error_left ppb first.place) (error_left ppb first.place first)
            others,
      )

  pub keeps_first : KeepsLow (fineness_of ppb) first (lowest_moment ppb first others first.place)
  keeps_first = (
    ≤ℤ_refl _,
    late_enough (fineness_of ppb) first.place first.error (lowest_error ppb first others first.place)
        no_lower_than_first,
  )

  keeps_other : (mark : Mark)
      → error_left ppb mark.place mark ≤ℤ lowest_error ppb first others mark.place
      → KeepsLow (fineness_of ppb) mark (lowest_moment ppb first others mark.place)
  keeps_other mark h = (
    ≤ℤ_refl _,
    late_enough (fineness_of ppb) mark.place mark.error (lowest_error ppb first others mark.place)
        (let own = own_place ppb mark in omega (arith, ints)),
  )

  pub keeps_others : All (λ mark. KeepsLow (fineness_of ppb) mark (lowest_moment ppb first others mark.place)) others
  keeps_others k d below' =
      grind (
        arith,
        keeps_other (slice_index_or others k d) (each_at_most (error_left ppb (slice_index_or others k
            d).place) (error_left ppb (slice_index_or others k d).place first) others k d below'),
        slice_index_or others k d,
      )

  no_higher : (high : Mark) → AreCompatible ppb first high → All (λ low. AreCompatible ppb low high) others
      → lowest_error ppb first others high.place ≤ℤ (high.error *ℤ pos (fineness_of ppb))
  no_higher high agrees all =
      all_at_most (error_left ppb high.place) (error_left ppb high.place first)
      (high.error *ℤ pos (fineness_of ppb)) others (left_below ppb first high agrees)
      (All-weaker (λ low. AreCompatible ppb low high)
      (λ low. error_left ppb high.place low ≤ℤ (high.error *ℤ pos (fineness_of ppb)))
      (λ low agree. left_below ppb low high agree) others all)

  pub keeps_high : (high : Mark) → AreCompatible ppb first high → All (λ low. AreCompatible ppb low high) others
      → KeepsHigh (fineness_of ppb) high (lowest_moment ppb first others high.place)
  keeps_high high agrees all = (
    ≤ℤ_refl _,
    soon_enough (fineness_of ppb) high.place high.error (lowest_error ppb first others high.place)
        (no_higher high agrees all),
  )

  -- where the first mark is a high one too, the error at its place is its error
  pub first_is_met : All (λ low. AreCompatible ppb low first) others
      → error_of (lowest_moment ppb first others first.place) ≡ first.error *ℤ pos (fineness_of ppb)
  first_is_met all =
      omega (arith, ints, ≤ℤ_antisymm _ _ (no_higher first (with_itself ppb first) all) no_lower_than_first)
