-- What marks that are moved for a stretch leave at its first reading.
use Rattle.std.proofs.Common.{◌≡◌, ℕ, ◌+◌, ◌-◌, ◌*◌, ◌<◌, ◌≤◌, ℤ, pos, ◌+ℤ◌, ◌-ℤ◌, ◌*ℤ◌, ◌≤ℤ◌, ◌<ℤ◌, unsigned_abs, refl, arith}
use Rattle.std.proofs.Math.Nat.{mul-le-mul_left}
use Rattle.std.proofs.lemmas.Int.{by_lt_z, clamps, ints}
use Rattle.era_unfold.specs.Ratio.{IsCeiling, ceiling_of}
use Rattle.era_unfold.proofs.Rounding.{IsCeiling-ceiling_of}
use Rattle.error_marks.specs.Mark.{AreCompatible}
use Rattle.error_marks.specs.declared.mark.Mark.{Mark}
use Rattle.sample_interval.specs.Widening.{IsRate, billion, widening}
use Rattle.span_cover.specs.declared.stretch.Stretch.{Stretch}
use Rattle.cover_checker.specs.Interval.{ahead, fall, high_over, low_over, rise}
use Rattle.feasibility.specs.LowestCourse.{error_left, fineness_of, most_fall, most_rise}
use Rattle.cover_finder.specs.Hull.{change_over}
use Rattle.feasibility.proofs.Slope.{asked_after, asked_before}
use Rattle.cover_finder.proofs.NearNumbers.{IsCeiling-finer, IsCeiling-lt, IsCeiling-mono, IsCeiling-sum, below_ceiling, left_is_near}

-- ---- over plain numbers: g and s parts

-- a change over a distance d, rounded up, in parts
fall_in_parts : (g s p d c : ℕ) → 0 < s → c * g < p * d + g → g * s * c < p * s * d + g * s
fall_in_parts g s p d c some less =
    let one : c * g + 1 ≤ p * d + g = omega arith in
    omega (arith, mul-le-mul_left s one)

rise_in_parts : (g s p d c : ℕ) → 0 < g → c * s < p * d + s → g * s * c < p * g * d + g * s
rise_in_parts g s p d c some less =
    let one : c * s + 1 ≤ p * d + s = omega arith in
    omega (arith, mul-le-mul_left g one)

-- ---- numbers near to an end

-- in parts: less than a tick above a low end, but for what the error may change over the stretch
abbrev pub parts_near : ℕ → Stretch → ℤ → ℤ
parts_near ppb stretch lo = ((lo +ℤ pos 1) +ℤ change_over ppb stretch) *ℤ pos (fineness_of ppb)

-- a mark where the stretch begins: a tick below a high end, but for that change
abbrev pub mark_near : ℕ → Stretch → ℤ → Mark
mark_near ppb stretch hi = record { place = stretch.begin; error = (hi -ℤ pos 1) -ℤ change_over ppb stretch }

-- ---- changes

module _ (ppb : ℕ) (rate : IsRate ppb) where
  -- the most that the error falls over a distance, and that it rises, in whole ticks
  falls : ℕ → ℕ
  falls d = widening ppb d

  rises : ℕ → ℕ
  rises d = ceiling_of (ppb * d) (billion + ppb)

  falls_are : (d : ℕ) → IsCeiling (ppb * d) (billion - ppb) (falls d)
  unfolding falls widening
  falls_are d = IsCeiling-ceiling_of (ppb * d) (billion - ppb) (omega arith)

  rises_are : (d : ℕ) → IsCeiling (ppb * d) (billion + ppb) (rises d)
  unfolding rises
  rises_are d = IsCeiling-ceiling_of (ppb * d) (billion + ppb) (omega arith)

  falls_mono : (near far : ℕ) → near ≤ far → falls near ≤ falls far
  falls_mono near far le =
      IsCeiling-mono (billion - ppb) (ppb * near) (ppb * far) (falls near) (falls far) (mul-le-mul_left ppb le)
      (falls_are near) (falls_are far)

  rises_mono : (near far : ℕ) → near ≤ far → rises near ≤ rises far
  rises_mono near far le =
      IsCeiling-mono (billion + ppb) (ppb * near) (ppb * far) (rises near) (rises far) (mul-le-mul_left ppb le)
      (rises_are near) (rises_are far)

  rises_below_falls : (d : ℕ) → rises d ≤ falls d
  rises_below_falls d =
      IsCeiling-finer (ppb * d) (billion - ppb) (billion + ppb) (falls d) (rises d) (omega arith) (falls_are d)
      (rises_are d)

  sum_is : (g d e q : ℕ) → IsCeiling (ppb * (d + e)) g q → IsCeiling (ppb * d + ppb * e) g q
  sum_is g d e q is = let whole : ppb * (d + e) ≡ ppb * d + ppb * e = omega arith in rw (← whole) is

  falls_sum : (d e : ℕ) → falls (d + e) ≤ falls d + falls e
  falls_sum d e =
      IsCeiling-sum (billion - ppb) (ppb * d) (ppb * e) (falls d) (falls e) (falls (d + e)) (falls_are d) (falls_are e)
      (sum_is (billion - ppb) d e (falls (d + e)) (falls_are (d + e)))

  rises_sum : (d e : ℕ) → rises (d + e) ≤ rises d + rises e
  rises_sum d e =
      IsCeiling-sum (billion + ppb) (ppb * d) (ppb * e) (rises d) (rises e) (rises (d + e)) (rises_are d) (rises_are e)
      (sum_is (billion + ppb) d e (rises (d + e)) (rises_are (d + e)))

  falls_lt : (d : ℕ) → falls d * (billion - ppb) < ppb * d + (billion - ppb)
  falls_lt d = IsCeiling-lt (billion - ppb) (ppb * d) (falls d) (omega arith) (falls_are d)

  rises_lt : (d : ℕ) → rises d * (billion + ppb) < ppb * d + (billion + ppb)
  rises_lt d = IsCeiling-lt (billion + ppb) (ppb * d) (rises d) (omega arith) (rises_are d)

  falls_in_parts : (d : ℕ) → fineness_of ppb * falls d < most_fall ppb * d + fineness_of ppb
  falls_in_parts d = fall_in_parts (billion - ppb) (billion + ppb) ppb d (falls d) (omega arith) (falls_lt d)

  rises_in_parts : (d : ℕ) → fineness_of ppb * rises d < most_rise ppb * d + fineness_of ppb
  rises_in_parts d = rise_in_parts (billion - ppb) (billion + ppb) ppb d (rises d) (omega arith) (rises_lt d)

  -- ---- a mark that is moved for a stretch

  fall_is : (distance : ℤ) (d : ℕ) → unsigned_abs distance ≡ d → fall ppb distance ≡ pos (falls d)
  unfolding falls
  fall_is distance d is = rw is refl

  rise_is : (distance : ℤ) (d : ℕ) → unsigned_abs distance ≡ d → rise ppb distance ≡ pos (rises d)
  unfolding rises rise
  rise_is distance d is = rw is refl

  module _ (stretch : Stretch) (mark : Mark) (forth : stretch.begin ≤ℤ stretch.end) where
    -- how long the stretch is
    abbrev long : ℕ
    long = unsigned_abs (stretch.end -ℤ stretch.begin)

    change_is : change_over ppb stretch ≡ pos (falls long)
    unfolding falls
    change_is = refl

    module _ (at_or_before : mark.place ≤ℤ stretch.begin) where
      abbrev since : ℕ
      since = unsigned_abs (stretch.begin -ℤ mark.place)

      to_end : unsigned_abs (ahead mark.place stretch.end) ≡ since + long
      to_end = omega (arith, ints, clamps)

      from_begin : unsigned_abs (ahead stretch.begin mark.place) ≡ 0
      from_begin = omega (arith, ints, clamps)

      -- a low mark is moved down by no more than it falls till the stretch begins, and then
      lowered_before : (lo : ℤ) → low_over ppb stretch mark ≤ℤ lo
          → mark.error ≤ℤ ((lo +ℤ pos (falls long)) +ℤ pos (falls since))
      lowered_before lo low =
          let fallen = fall_is (ahead mark.place stretch.end) (since + long) to_end in
          let risen = rise_is (ahead stretch.begin mark.place) 0 from_begin in
          omega (
            arith,
            ints,
            clamps,
            falls_sum since long,
            rises_below_falls 0,
            falls_mono 0 (since + long) (omega arith),
          )

      -- and a high mark up by no more than it rises
      raised_before : (hi : ℤ) → hi ≤ℤ high_over ppb stretch mark
          → ((hi -ℤ pos (falls long)) -ℤ mark.error) ≤ℤ pos (rises since)
      raised_before hi high =
          let risen = rise_is (ahead mark.place stretch.end) (since + long) to_end in
          let fallen = fall_is (ahead stretch.begin mark.place) 0 from_begin in
          omega (
            arith,
            ints,
            clamps,
            rises_sum since long,
            rises_below_falls long,
            falls_mono 0 long (omega arith),
          )

      left_before : (lo : ℤ) → low_over ppb stretch mark ≤ℤ lo
          → error_left ppb stretch.begin mark <ℤ parts_near ppb stretch lo
      left_before lo low =
          rw (
            change_is,
            asked_after (most_rise ppb) (most_fall ppb) (mark.error *ℤ pos (fineness_of ppb)) mark.place
                stretch.begin since (omega (arith, ints)),
          )
          (left_is_near (fineness_of ppb) (falls long) (falls since) (most_fall ppb * since) mark.error lo
          (lowered_before lo low) (falls_in_parts since))

    module _ (at_or_behind : stretch.begin ≤ℤ mark.place) where
      abbrev until : ℕ
      until = unsigned_abs (mark.place -ℤ stretch.begin)

      near_end : unsigned_abs (ahead mark.place stretch.end) ≤ long
      near_end = omega (arith, ints, clamps)

      till_place : unsigned_abs (ahead stretch.begin mark.place) ≡ until
      till_place = omega (arith, ints, clamps)

      -- a low mark is moved down by no more than it rises till its place, or falls over the stretch
      lowered_behind : (lo : ℤ) → low_over ppb stretch mark ≤ℤ lo
          → mark.error ≤ℤ ((lo +ℤ pos (falls long)) +ℤ pos (rises until))
      lowered_behind lo low =
          let fallen = fall_is (ahead mark.place stretch.end) _ refl in
          let risen = rise_is (ahead stretch.begin mark.place) until till_place in
          omega (arith, ints, clamps, falls_mono (unsigned_abs (ahead mark.place stretch.end)) long near_end)

      raised_behind : (hi : ℤ) → hi ≤ℤ high_over ppb stretch mark
          → ((hi -ℤ pos (falls long)) -ℤ mark.error) ≤ℤ pos (falls until)
      raised_behind hi high =
          let risen = rise_is (ahead mark.place stretch.end) _ refl in
          let fallen = fall_is (ahead stretch.begin mark.place) until till_place in
          omega (
            arith,
            ints,
            clamps,
            rises_mono (unsigned_abs (ahead mark.place stretch.end)) long near_end,
            rises_below_falls long,
          )

      left_behind : stretch.begin <ℤ mark.place → (lo : ℤ) → low_over ppb stretch mark ≤ℤ lo
          → error_left ppb stretch.begin mark <ℤ parts_near ppb stretch lo
      left_behind behind lo low =
          rw (
            change_is,
            asked_before (most_rise ppb) (most_fall ppb) (mark.error *ℤ pos (fineness_of ppb)) mark.place
                stretch.begin until (omega (arith, ints)) (omega (arith, ints)),
          )
          (left_is_near (fineness_of ppb) (falls long) (rises until) (most_rise ppb * until) mark.error lo
          (lowered_behind lo low) (rises_in_parts until))

    -- what a low mark that isn't moved above a number leaves where the stretch begins is near to that
    pub left_near : (lo : ℤ) → low_over ppb stretch mark ≤ℤ lo
        → error_left ppb stretch.begin mark <ℤ parts_near ppb stretch lo
    left_near lo low = by_lt_z stretch.begin mark.place
        (λ behind. left_behind (omega (arith, ints)) behind lo low)
        (λ before. left_before before lo low)

    -- a low mark is moved down
    pub low_over_below : low_over ppb stretch mark ≤ℤ mark.error
    low_over_below = omega (arith, ints, clamps)

    -- a high mark that isn't moved below a number agrees with the mark near to that
    pub near_agrees : (hi : ℤ) → hi ≤ℤ high_over ppb stretch mark
        → AreCompatible ppb (mark_near ppb stretch hi) mark
    near_agrees hi high = record {
      falls = λ on. below_ceiling (billion - ppb) ppb (unsigned_abs (mark.place -ℤ stretch.begin))
          (falls (unsigned_abs (mark.place -ℤ stretch.begin))) _ (mark.place -ℤ stretch.begin) (omega (arith, ints))
          (let high' = raised_behind on hi high in let is = change_is in omega (arith, ints))
          (falls_lt (unsigned_abs (mark.place -ℤ stretch.begin)));
      rises = λ before. below_ceiling (billion + ppb) ppb (unsigned_abs (stretch.begin -ℤ mark.place))
          (rises (unsigned_abs (stretch.begin -ℤ mark.place))) _ (stretch.begin -ℤ mark.place) (omega (arith, ints))
          (let high' = raised_before (omega (arith, ints)) hi high in let is = change_is in omega (arith, ints))
          (rises_lt (unsigned_abs (stretch.begin -ℤ mark.place)));
    }
