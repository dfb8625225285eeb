-- Two marks that moments of one clock keep are compatible, and each holds at its place.
use Rattle.feasibility.proofs.Common.{rules, ◌≡◌, ℕ, ◌+◌, ◌-◌, ◌*◌, ◌<◌, ◌≤◌, ℤ, pos, ◌-ℤ◌, ◌*ℤ◌, ◌≤ℤ◌, ◌<ℤ◌, unsigned_abs, refl, subst, arith, ints, le_of_mul-le-mul_right, mul-le-mul_right, Mark, AreCompatible, Moment, error_of, DriftsWithin, billion, time_of, KeepsLow, KeepsHigh, ≤ℤ_trans}
use Rattle.feasibility.proofs.Scaling.{times-sub, scaled_beyond, bounded}
use Rattle.feasibility.proofs.Steps.{Drifts, Drifts-turned, rises_by, falls_by, readings_go_on, times_go_on}
use Rattle.feasibility.proofs.Agreement.{TwoKept, ahead, behind}

-- ---- drift, by readings

-- with a rate below a billion, both parts of it
pub parts_of : (ppb : ℕ) (a b : Moment) → ppb < billion → DriftsWithin ppb a b → Drifts (billion - ppb) ppb a b
parts_of ppb a b slow h = search rules

fast_part : (ppb : ℕ) → ppb < billion → (billion - ppb) + ppb + ppb ≡ billion + ppb
fast_part ppb slow = omega arith

-- the error rises by at most P/(B+P) and falls by at most P/(B-P) of what the clock advances
module _ (ppb : ℕ) (a b : Moment) (slow : ppb < billion) (h : DriftsWithin ppb a b)
    (forth : a.reading ≤ℤ b.reading) where
  pub error_rises : (pos (billion + ppb) *ℤ (error_of b -ℤ error_of a)) ≤ℤ (pos ppb *ℤ (b.reading -ℤ a.reading))
  error_rises =
      let r : ℕ = unsigned_abs (b.reading -ℤ a.reading) in
      bounded (billion + ppb) ppb r (error_of b -ℤ error_of a) (b.reading -ℤ a.reading)
      (omega (arith, ints))
      (λ y change.
      let step = rises_by (parts_of ppb a b slow h) r y (omega (arith, ints)) change in
      subst (λ (n : ℕ). n * y ≤ ppb * r) (fast_part ppb slow) step)

  pub error_falls : (pos (billion - ppb) *ℤ (error_of a -ℤ error_of b)) ≤ℤ (pos ppb *ℤ (b.reading -ℤ a.reading))
  error_falls =
      let r : ℕ = unsigned_abs (b.reading -ℤ a.reading) in
      bounded (billion - ppb) ppb r (error_of a -ℤ error_of b) (b.reading -ℤ a.reading)
      (omega (arith, ints))
      (λ y change. falls_by (parts_of ppb a b slow h) r y (omega (arith, ints)) change)

pub moments_in_order : (ppb : ℕ) (a b : Moment) → ppb < billion → DriftsWithin ppb a b → a.time ≤ℤ b.time
    → a.reading ≤ℤ b.reading
moments_in_order ppb a b slow h forth = readings_go_on (parts_of ppb a b slow h) forth

pub times_in_order : (ppb : ℕ) (a b : Moment) → ppb < billion → DriftsWithin ppb a b → a.reading ≤ℤ b.reading
    → a.time ≤ℤ b.time
times_in_order ppb a b slow h forth = times_go_on (parts_of ppb a b slow h) forth

-- ---- a mark at its place

module _ (n : ℕ) (place error time : ℤ) where
  no_less_than_mark : time ≤ℤ ((place -ℤ error) *ℤ pos n) → (error *ℤ pos n) ≤ℤ ((place *ℤ pos n) -ℤ time)
  no_less_than_mark h = omega (arith, ints, times-sub (place -ℤ error) place error n refl)

  no_more_than_mark : ((place -ℤ error) *ℤ pos n) ≤ℤ time → ((place *ℤ pos n) -ℤ time) ≤ℤ (error *ℤ pos n)
  no_more_than_mark h = omega (arith, ints, times-sub (place -ℤ error) place error n refl)

module _ (ppb n : ℕ) (mark : Mark) (kept at_place : Moment) (slow : ppb < billion)
    (h : DriftsWithin ppb kept at_place) (there : at_place.reading ≡ mark.place *ℤ pos n) where
  -- when the clock reads a low mark's place, the error is no less than the mark's
  pub low_holds : KeepsLow n mark kept → (mark.error *ℤ pos n) ≤ℤ error_of at_place
  low_holds keeps =
      let first : at_place.reading ≤ℤ kept.reading = rw there keeps.0 in
      let time = times_go_on (Drifts-turned (parts_of ppb kept at_place slow h)) first in
      rw there (no_less_than_mark n mark.place mark.error at_place.time (≤ℤ_trans _ _ _ time keeps.1))

  -- when it reads a high mark's place, the error is no more than the mark's
  pub high_holds : KeepsHigh n mark kept → error_of at_place ≤ℤ (mark.error *ℤ pos n)
  high_holds keeps =
      let last : kept.reading ≤ℤ at_place.reading = rw there keeps.0 in
      let time = times_in_order ppb kept at_place slow h last in
      rw there (no_more_than_mark n mark.place mark.error at_place.time (≤ℤ_trans _ _ _ keeps.1 time))

-- ---- two marks that are kept

-- a mark as a moment: its place, and the true time that it speaks of
moment_of : ℕ → Mark → Moment
moment_of n mark = record { time = time_of mark *ℤ pos n; reading = mark.place *ℤ pos n }

error_scaled : (n : ℕ) (mark : Mark) → error_of (moment_of n mark) ≡ mark.error *ℤ pos n
unfolding moment_of
error_scaled n mark = omega (arith, ints, times-sub (time_of mark) mark.place mark.error n refl)

asks_scaled : (n x : ℕ) (low high : Mark) → low.error -ℤ high.error ≡ pos x
    → error_of (moment_of n low) -ℤ error_of (moment_of n high) ≡ pos (x * n)
asks_scaled n x low high asks =
    let difference = times-sub (pos x) low.error high.error n (omega (arith, ints)) in
    rw (error_scaled n low, error_scaled n high) (omega (arith, ints, difference))

grouped : (g x p d n : ℕ) → g * (x * n) ≤ p * (d * n) → 0 < n → g * x ≤ p * d
grouped g x p d n h some =
    let turned : (g * x) * n ≤ (p * d) * n = omega arith in
    le_of_mul-le-mul_right turned some

module _ (ppb n : ℕ) (low high : Mark) (some : 0 < n) (slow : ppb < billion)
    (kept : (a : Moment) × (b : Moment) × TwoKept (billion - ppb) ppb a b (moment_of n low) (moment_of n high)) where
  no_fall : low.place ≤ℤ high.place
      → (pos (billion - ppb) *ℤ (low.error -ℤ high.error)) ≤ℤ (pos ppb *ℤ (high.place -ℤ low.place))
  unfolding moment_of
  no_fall forth =
      let d : ℕ = unsigned_abs (high.place -ℤ low.place) in
      let further = scaled_beyond low.place high.place d n (omega (arith, ints)) in
      bounded (billion - ppb) ppb d (low.error -ℤ high.error) (high.place -ℤ low.place)
      (omega (arith, ints))
      (λ x asks. grouped (billion - ppb) x ppb d n
      (ahead kept.2 (x * n) (d * n) (asks_scaled n x low high asks) further) some)

  no_rise : high.place <ℤ low.place
      → (pos (billion + ppb) *ℤ (low.error -ℤ high.error)) ≤ℤ (pos ppb *ℤ (low.place -ℤ high.place))
  unfolding moment_of
  no_rise back =
      let d : ℕ = unsigned_abs (low.place -ℤ high.place) in
      let past : high.place ≤ℤ low.place = omega (arith, ints) in
      let further = scaled_beyond high.place low.place d n (omega (arith, ints)) in
      let apart : 1 * n ≤ d * n = mul-le-mul_right n (omega (arith, ints)) in
      bounded (billion + ppb) ppb d (low.error -ℤ high.error) (low.place -ℤ high.place)
      (omega (arith, ints))
      (λ x asks.
      let step = behind kept.2 (x * n) (d * n) (asks_scaled n x low high asks) further (omega arith) in
      subst (λ (s : ℕ). s * x ≤ ppb * d) (fast_part ppb slow)
      (grouped ((billion - ppb) + ppb + ppb) x ppb d n step some))

pub kept_are_compatible : (ppb n : ℕ) (low high : Mark) (a b : Moment) → 0 < n → ppb ≤ 500000000
    → DriftsWithin ppb a b → KeepsLow n low a → KeepsHigh n high b → AreCompatible ppb low high
unfolding moment_of
kept_are_compatible ppb n low high a b some slow h keeps_low keeps_high =
    let below : ppb < billion = omega arith in
    let kept : TwoKept (billion - ppb) ppb a b (moment_of n low) (moment_of n high) = record {
      drifts = parts_of ppb a b below h;
      reached = keeps_low.0;
      in_time = keeps_low.1;
      not_past = keeps_high.0;
      no_sooner = keeps_high.1;
    } in
    record {
      falls = no_fall ppb n low high some below (a, b, kept);
      rises = no_rise ppb n low high some below (a, b, kept);
    }

pub ruleset in_order = (moments_in_order, times_in_order)
