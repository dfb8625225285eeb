-- Marks that moments keep, at the readings of a stretch.
use Rattle.cover_checker.proofs.Common.{◌≡◌, ℕ, ◌+◌, ◌-◌, ◌*◌, ◌<◌, ◌≤◌, ℤ, pos, negsuc, ◌+ℤ◌, ◌-ℤ◌, ◌*ℤ◌, ◌≤ℤ◌, unsigned_abs, refl, arith, by_lt_z, clamps, ints, int_max, times-add, times_le, Mark, Moment, error_of, DriftsWithin, IsInWindow, IsRate, billion, widening, Stretch, KeepsHigh, KeepsLow, ahead, fall, rise, low_over, high_over}
use Rattle.std.proofs.Math.Nat.{le_of_mul-le-mul_right, mul-le-mul_left, mul-le-mul_right}
use Rattle.era_unfold.specs.Ratio.{IsCeiling, ceiling_of}
use Rattle.feasibility.proofs.Scaling.{product_from, times-sub}
use Rattle.feasibility.proofs.KeptMarks.{error_falls, error_rises}

-- ---- over plain numbers

-- the change of the error, n times over: g times it is at most p times what the clock advances, which
-- is no more than x and n times d
change_within : (n g p e r x d w : ℕ) → 0 < g → p ≤ g → g * e ≤ p * r → r ≤ x + d * n → p * d ≤ w * g
    → e ≤ x + w * n
change_within n g p e r x d w positive slow drift near wide =
    let far : p * r ≤ p * (x + d * n) = mul-le-mul_left p near in
    let beyond : p * x ≤ g * x = mul-le-mul_right x slow in
    let scaled : p * d * n ≤ w * g * n = mul-le-mul_right n wide in
    let product : e * g ≤ (x + w * n) * g = omega arith in
    le_of_mul-le-mul_right product positive

changed : (n g p x d w : ℕ) (z gap : ℤ) → 0 < g → p ≤ g → pos 0 ≤ℤ gap → gap ≤ℤ pos (x + d * n) → p * d ≤ w * g
    → (pos g *ℤ z) ≤ℤ (pos p *ℤ gap) → z ≤ℤ pos (x + w * n)
changed n g p x d w (negsuc e) gap positive slow forth near wide h = omega (arith, ints)
changed n g p x d w (pos e) gap positive slow forth near wide h =
    let r : ℕ = unsigned_abs gap in
    let at_gap : gap ≡ pos r = omega (arith, ints) in
    let close : r ≤ x + d * n = omega (arith, ints) in
    let drift = product_from g p e r (pos e) gap refl at_gap h in
    let is = change_within n g p e r x d w positive slow drift close wide in
    omega (arith, ints)

-- how far a reading lies beyond a place is no more than n times how far the end does
beyond : (n : ℕ) (from to : ℤ) → ((to *ℤ pos n) -ℤ (from *ℤ pos n)) ≤ℤ pos (unsigned_abs (ahead from to) * n)
beyond n from to =
    let d : ℕ = unsigned_abs (ahead from to) in
    omega (
      arith,
      ints,
      times-sub (to -ℤ from) to from n refl,
      times_le (to -ℤ from) (pos d) n (omega (arith, ints, clamps)),
    )

-- ---- the two changes

abbrev pub HasCeilings : Type 0
HasCeilings = (n d : ℕ) → 0 < d → IsCeiling n d (ceiling_of n d)

-- a mark that is moved by w at least
lowered : (n x w : ℕ) (low wide before after : ℤ) → ((low *ℤ pos n) +ℤ pos x) ≤ℤ before
    → (before -ℤ after) ≤ℤ pos (x + w * n) → pos w ≤ℤ wide → ((low -ℤ wide) *ℤ pos n) ≤ℤ after
lowered n x w low wide before after least change far =
    omega (arith, ints, times-sub (low -ℤ wide) low wide n refl, times_le (pos w) wide n far)

raised : (n x w : ℕ) (high wide before after : ℤ) → before ≤ℤ ((high *ℤ pos n) -ℤ pos x)
    → (after -ℤ before) ≤ℤ pos (x + w * n) → pos w ≤ℤ wide → after ≤ℤ ((high +ℤ wide) *ℤ pos n)
raised n x w high wide before after most change far =
    omega (arith, ints, times-add (high +ℤ wide) high wide n refl, times_le (pos w) wide n far)

module _ (ceilings : HasCeilings) (ppb : ℕ) (rate : IsRate ppb) where
  fall_is : (d : ℕ) → ppb * d ≤ widening ppb d * (billion - ppb)
  unfolding widening
  fall_is d = (ceilings (ppb * d) (billion - ppb) (omega arith)).not_below

  rises : ℕ → ℕ
  rises d = ceiling_of (ppb * d) (billion + ppb)

  rise_is : (d : ℕ) → ppb * d ≤ rises d * (billion + ppb)
  unfolding rises
  rise_is d = (ceilings (ppb * d) (billion + ppb) (omega arith)).not_below

  rise_wide : (d : ℤ) (other : ℤ) → pos (rises (unsigned_abs d)) ≤ℤ int_max other (rise ppb d)
  unfolding rise rises
  rise_wide d other = omega (arith, ints, clamps)

  rise_wide_first : (d : ℤ) (other : ℤ) → pos (rises (unsigned_abs d)) ≤ℤ int_max (rise ppb d) other
  unfolding rise rises
  rise_wide_first d other = omega (arith, ints, clamps)

  module _ (n : ℕ) (stretch : Stretch) (mark : Mark) (kept observed : Moment) (forth : DriftsWithin ppb kept observed)
      (back : DriftsWithin ppb observed kept) (inside : IsInWindow n stretch.begin stretch.end observed.reading) where
    -- how far the kept moment lies from the mark's place
    abbrev beyond_place : ℕ
    beyond_place = unsigned_abs (kept.reading -ℤ (mark.place *ℤ pos n))

    abbrev to_end : ℕ
    to_end = unsigned_abs (ahead mark.place stretch.end)

    abbrev from_begin : ℕ
    from_begin = unsigned_abs (ahead stretch.begin mark.place)

    slow : ppb < billion
    slow = omega arith

    -- when the clock is observed, the error is no less than the low mark is moved to
    pub low_stays : KeepsLow n mark kept → (low_over ppb stretch mark *ℤ pos n) ≤ℤ error_of observed
    low_stays keeps =
        let least : ((mark.error *ℤ pos n) +ℤ pos beyond_place) ≤ℤ error_of kept =
        omega (arith, ints, keeps.0, keeps.1, times-sub (mark.place -ℤ mark.error) mark.place mark.error n refl) in
        by_lt_z observed.reading kept.reading
        (λ before.
        lowered n beyond_place (rises from_begin) mark.error _ (error_of kept) (error_of observed) least
        (changed n (billion + ppb) ppb beyond_place from_begin (rises from_begin)
        (error_of kept -ℤ error_of observed) (kept.reading -ℤ observed.reading) (omega arith) (omega arith)
        (omega (arith, ints))
        (omega (arith, ints, keeps.0, inside.0, beyond n stretch.begin mark.place))
        (rise_is from_begin) (error_rises ppb observed kept slow back (omega (arith, ints))))
        (rise_wide (ahead stretch.begin mark.place) (fall ppb (ahead mark.place stretch.end))))
        (λ after.
        lowered n beyond_place (widening ppb to_end) mark.error _ (error_of kept) (error_of observed) least
        (changed n (billion - ppb) ppb beyond_place to_end (widening ppb to_end)
        (error_of kept -ℤ error_of observed) (observed.reading -ℤ kept.reading) (omega arith) (omega arith)
        (omega (arith, ints))
        (omega (arith, ints, keeps.0, inside.1, beyond n mark.place stretch.end))
        (fall_is to_end) (error_falls ppb kept observed slow forth after))
        (omega (arith, ints, clamps)))

    -- and no more than the high mark is
    pub high_stays : KeepsHigh n mark kept → error_of observed ≤ℤ (high_over ppb stretch mark *ℤ pos n)
    high_stays keeps =
        let most : error_of kept ≤ℤ ((mark.error *ℤ pos n) -ℤ pos beyond_place) =
        omega (arith, ints, keeps.0, keeps.1, times-sub (mark.place -ℤ mark.error) mark.place mark.error n refl) in
        by_lt_z observed.reading kept.reading
        (λ before.
        raised n beyond_place (widening ppb from_begin) mark.error _ (error_of kept) (error_of observed) most
        (changed n (billion - ppb) ppb beyond_place from_begin (widening ppb from_begin)
        (error_of observed -ℤ error_of kept) (kept.reading -ℤ observed.reading) (omega arith) (omega arith)
        (omega (arith, ints))
        (omega (arith, ints, keeps.0, inside.0, beyond n stretch.begin mark.place))
        (fall_is from_begin) (error_falls ppb observed kept slow back (omega (arith, ints))))
        (omega (arith, ints, clamps)))
        (λ after.
        raised n beyond_place (rises to_end) mark.error _ (error_of kept) (error_of observed) most
        (changed n (billion + ppb) ppb beyond_place to_end (rises to_end)
        (error_of observed -ℤ error_of kept) (observed.reading -ℤ kept.reading) (omega arith) (omega arith)
        (omega (arith, ints))
        (omega (arith, ints, keeps.0, inside.1, beyond n mark.place stretch.end))
        (rise_is to_end) (error_rises ppb kept observed slow forth after))
        (rise_wide_first (ahead mark.place stretch.end) (fall ppb (ahead stretch.begin mark.place))))
