-- The highest level over a stretch, and the interval that it gives.
use Rattle.sweep.proofs.Common.{◌≡◌, ℕ, ◌+◌, ◌-◌, ◌/◌, ◌<◌, ◌≤◌, ◌^◌, max, ℤ, pos, ◌+ℤ◌, ◌-ℤ◌, ◌≤ℤ◌, neg_ℤ, List, length, map, Option, Some, None, MatchOption, refl, sym, subst, arith, inl, inr, ⊎_elim, slice_get, All, cases_lt, ints, le-div, div-mul-le_self, Side, Low, High, IsRate, IsWidening, widening, billion, Sample, HasNoSample, IsFirstBest, IsBestLow, IsBestHigh, best_of, merit, moved_low, moved_high, Part, IsLawfulExtreme, AreExtremesOf, mirrored_extreme, IsEarlyLevel, IsStretchOf, IsLawfulStretch, mirrored_stretch, IsLevelOver, best_part, IsAtLeast, distance, Extreme, UnsignedStretch}
use Rattle.intersection.specs.declared.kinds.Interval.{Interval}
use Rattle.span_cover.specs.Gathering.{best_interval, interval_between}
use Rattle.span_cover.proofs.BestSample.{best_numbers}
use Rattle.sweep.proofs.ExtremeList.{some_sample}
use Rattle.sweep.proofs.Merit.{merit_is, known}
use Rattle.sweep.proofs.Reach.{reaches_either, either_reaches, some_reaches}

quotient_grows : (a b m : ℕ) → 0 < m → a ≤ b → a / m ≤ b / m
quotient_grows a b m some le = let back = div-mul-le_self a m in le-div (a / m) b m some (omega arith)

-- ---- the higher of the levels of both ways

module _ (widens : (ppb distance : ℕ) → ppb < billion → IsWidening ppb distance (widening ppb distance)) (ppb : ℕ)
    (slow : IsRate ppb) (extremes : List Extreme) (stretch : UnsignedStretch) (all : All IsLawfulExtreme extremes)
    (s : IsLawfulStretch stretch) (some : 0 < length extremes) where
  -- an extreme reaches the level
  abbrev Reached : ℕ → Type 0
  Reached level = (index : ℕ) × IsAtLeast ppb extremes stretch index level

  least : Reached 0
  least = some_reaches widens ppb slow extremes stretch all s some

  -- how far the highest stands above what it falls, in either direction
  module _ (early late : ℕ) (forth : IsEarlyLevel ppb extremes stretch (early / (billion - ppb)))
      (back : IsEarlyLevel ppb (map mirrored_extreme extremes) (mirrored_stretch stretch) (late / (billion - ppb)))
    where
      early_reached : Reached (early / (billion - ppb))
      early_reached = ⊎_elim
          (λ none. subst Reached (sym none) least)
          (λ one. (one.0, either_reaches widens ppb slow extremes stretch all s one.0 _ (inl one.1)))
          forth.reached

      late_reached : Reached (late / (billion - ppb))
      late_reached = ⊎_elim
          (λ none. subst Reached (sym none) least)
          (λ one. (one.0, either_reaches widens ppb slow extremes stretch all s one.0 _ (inr one.1)))
          back.reached

      pub IsLevelOver-higher : (level : ℕ) → level ≡ max early late / (billion - ppb) →
          IsLevelOver ppb extremes stretch level
      IsLevelOver-higher level is =
          let forth_up = quotient_grows early (max early late) (billion - ppb) (omega arith) (omega arith) in
          let back_up = quotient_grows late (max early late) (billion - ppb) (omega arith) (omega arith) in
          let here : Reached level = ⊎_elim
          (λ below. let same : max early late ≡ late = omega arith in rw (is, same) late_reached)
          (λ le. let same : max early late ≡ early = omega arith in rw (is, same) early_reached)
          (cases_lt early late) in
          record {
            index = here.0;
            reached = here.1;
            highest = λ other lower reaches. ⊎_elim
                (λ in_early. let most = forth.highest other lower in_early in omega arith)
                (λ in_late. let most = back.highest other lower in_late in omega arith)
                (reaches_either widens ppb slow extremes stretch all s other lower reaches);
          }

-- ---- the level is the merit of the best sample, counted from the origin

-- in plain numbers: y is the best merit, and x that of the extreme that reaches the level
level_of_best : (x y : ℤ) (end wide best_end best_wide level : ℕ) → x +ℤ pos (2 ^ 75) ≡ pos end -ℤ pos wide →
    y +ℤ pos (2 ^ 75) ≡ pos best_end -ℤ pos best_wide → level + wide ≤ end → x ≤ℤ y →
    (best_wide ≤ best_end → best_end - best_wide ≤ level) → y +ℤ pos (2 ^ 75) ≡ pos level
level_of_best x y end wide best_end best_wide level a b reached no_more most = grind arith

module _ (side : Side) (samples : List Sample) (server : ℕ) (extremes : List Extreme)
    (are : AreExtremesOf side samples server extremes) where
  module _ (p q : ℤ) (ppb : ℕ) (stretch : UnsignedStretch) (at : IsStretchOf p q stretch) (s : IsLawfulStretch stretch)
    where
      pub level_counted : (level : ℕ) → IsLevelOver ppb extremes stretch level → (number : ℕ) →
          (best : IsFirstBest (λ t. merit side t p q ppb) samples server number) →
          merit side best.sample p q ppb +ℤ pos (2 ^ 75) ≡ pos level
      level_counted level is number best =
          let extreme : Extreme = is.reached.extreme in
          let own = are.each is.index extreme is.reached.stands in
          let other = known side samples server extremes are p q ppb stretch at s number best.sample best.stands
          best.of_server in
          let wide = widening ppb (distance other.extreme stretch) in
          level_of_best (merit side own.sample p q ppb) (merit side best.sample p q ppb) extreme.end
          (widening ppb (distance extreme stretch)) other.extreme.end wide level
          (merit_is side p q ppb own.sample extreme stretch own.is own.lawful at s) other.counted is.reached.at_least
          (best.greatest extreme.number own.sample own.stands own.of_server)
          (λ le. is.highest other.index (other.extreme.end - wide)
          (record { extreme = other.extreme; stands = other.stands_at; at_least = omega arith }))

-- ---- the part of a table

from_zero_low : (merit : ℤ) (level : ℕ) (lo : ℤ) → merit +ℤ pos (2 ^ 75) ≡ pos level → lo ≡ pos level -ℤ pos (2 ^ 75) →
    merit ≡ lo
from_zero_low merit level lo counted is = omega (arith, ints)

from_zero_high : (high : ℤ) (level : ℕ) (hi : ℤ) → neg_ℤ high +ℤ pos (2 ^ 75) ≡ pos level →
    hi ≡ neg_ℤ (pos level -ℤ pos (2 ^ 75)) → high ≡ hi
from_zero_high high level hi counted is = omega (arith, ints)

module _ (samples : List Sample) (server : ℕ) (p q : ℤ) (ppb : ℕ) (stretch : UnsignedStretch)
    (at : IsStretchOf p q stretch) (s : IsLawfulStretch stretch) where
  module _ (low high : ℕ) (interval : Interval) (lo : interval.lo ≡ pos low -ℤ pos (2 ^ 75))
      (hi : interval.hi ≡ neg_ℤ (pos high -ℤ pos (2 ^ 75))) where
    module _ (lows highs : List Extreme) (low_ends : AreExtremesOf Low samples server lows)
        (high_ends : AreExtremesOf High samples server highs) (some : 0 < length lows)
        (low_is : IsLevelOver ppb lows stretch low) (high_is : IsLevelOver ppb highs stretch high) where
      between : (best : ℕ × ℕ) → IsBestLow samples server p q ppb best.0 → IsBestHigh samples server p q ppb best.1 →
          interval_between (slice_get samples best.0) (slice_get samples best.1) p q ppb ≡ Some interval
      between best a b =
          let low_same : moved_low a.sample p q ppb ≡ interval.lo =
          from_zero_low (moved_low a.sample p q ppb) low interval.lo
          (level_counted Low samples server lows low_ends p q ppb stretch at s low low_is best.0 a) lo in
          let high_same : moved_high b.sample p q ppb ≡ interval.hi =
          from_zero_high (moved_high b.sample p q ppb) high interval.hi
          (level_counted High samples server highs high_ends p q ppb stretch at s high high_is best.1 b) hi in
          rw (a.stands, b.stands, low_same, high_same) refl

      chosen : (best : Option (ℕ × ℕ)) → best_of samples server p q ppb ≡ best →
          MatchOption best (HasNoSample samples server)
          (λ b. IsBestLow samples server p q ppb b.0 × IsBestHigh samples server p q ppb b.1) →
          best_interval samples server p q ppb ≡ Some interval
      chosen None is none = absurd (some_sample Low samples server lows low_ends some none)
      chosen (Some best) is both = rw is (between best both.0 both.1)

      pub interval_is : best_interval samples server p q ppb ≡ Some interval
      interval_is = chosen (best_of samples server p q ppb) refl (best_numbers samples server p q ppb)

-- the part that the levels give
pub part_is : (samples : List Sample) (p q : ℤ) (ppb server : ℕ) (part : Part) → part.server ≡ server →
    best_interval samples server p q ppb ≡ Some part.interval → best_part samples p q ppb server ≡ Some part
part_is samples p q ppb server part same is = grind arith
