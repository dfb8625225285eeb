-- The piece that holds a tick.
use Rattle.finder.proofs.Common.{◌≡◌, ℕ, zero, suc, ◌+◌, ◌-◌, ◌*◌, ◌/◌, ◌<◌, ◌≤◌, ℤ, pos, ◌+ℤ◌, ◌-ℤ◌, ◌≤ℤ◌, unsigned_abs, List, ap, ◌∙◌, ⊎_elim, arith, mul-le-mul_right, cases_lt, ints, clamps, ticks_per_second, ClaimData, IsLawful, Sample, piece_end_of, HoldsTick, IsTick, piece_holding, next_tick, IsPieceCount, count_of, piece_begin_of}
use Rattle.finder.proofs.Finer.{quotient}

module _ (samples : List Sample) (claim : ClaimData) (lawful : IsLawful claim) (step : ℕ) (some : 0 < step)
    (counts : IsPieceCount claim.first claim.last step (count_of claim step)) (p : ℤ) (tick : IsTick claim p) where
  abbrev length : ℕ
  length = step * ticks_per_second

  abbrev distance : ℕ
  distance = unsigned_abs (p -ℤ claim.first)

  away : p ≡ (claim.first +ℤ pos distance)
  away = omega (arith, ints)

  begins_before : (k : ℕ) → k * length ≤ distance → piece_begin_of claim.first claim.last step k ≤ℤ p
  begins_before zero from = tick.from_first
  begins_before (suc k) from =
      let is = away in
      let same : (k + 1) * step * ticks_per_second ≡ suc k * length = omega arith in
      omega (arith, ints, clamps)

  ends_after : (k : ℕ) → distance < (k + 1) * length
      → next_tick samples claim p ≤ℤ piece_end_of claim.first claim.last step k
  ends_after k to =
      let is = away in
      let same : (k + 1) * step * ticks_per_second ≡ (k + 1) * length = omega arith in
      omega (arith, ints, clamps)

  same_product : (c : ℕ) → c * step * ticks_per_second ≡ c * length
  same_product c = omega arith

  -- the pieces are no fewer
  of_span : (k : ℕ) → k * length ≤ distance → k < count_of claim step
  of_span k from = ⊎_elim
      (λ less. less)
      (λ le. absurd (
      let is = away in
      let one = counts.some in
      let whole : count_of claim step - 1 + 1 ≡ count_of claim step = omega arith in
      let same : (count_of claim step - 1 + 1) * step * ticks_per_second ≡ count_of claim step * length =
      ap (λ (c : ℕ). c * step * ticks_per_second) whole
      ∙ same_product (count_of claim step) in
      let scaled : count_of claim step * length ≤ k * length = mul-le-mul_right length le in
      let positive : 1 * length ≤ count_of claim step * length = mul-le-mul_right length one in
      let some_length : 0 < length = omega arith in
      let to : claim.last ≤ℤ p = omega (arith, ints, clamps) in
      ⊎_elim (λ first. omega (arith, ints)) (λ before. omega (arith, ints)) tick.begins))
      (cases_lt k (count_of claim step))

  pub held_whole : (piece_holding claim step p < count_of claim step)
      × HoldsTick samples claim step (piece_holding claim step p) p
  held_whole =
      let some_length : 0 < length = omega arith in
      let parts = quotient distance length some_length in (
        of_span (distance / length) parts.0,
        (begins_before (distance / length) parts.0, ends_after (distance / length) parts.1),
      )
