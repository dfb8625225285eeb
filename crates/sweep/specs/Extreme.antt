-- An end of a sample, with time and error counted from an origin, so that nothing is below zero.
--
-- A high end has its sign turned: the least high end becomes the greatest, and to move it up by the
-- widening becomes to move it down.
use Rattle.std.specs.Prelude.{◌≡◌, ℕ, ◌+◌, ◌-◌, ◌^◌, ◌<◌, ◌≤◌, ℤ, pos, ◌+ℤ◌, neg_ℤ, Bool, true, false, List, Some, slice_get, length, map}
use Rattle.sweep.specs.Common.{Sample, Side, Low, High}
use Rattle.sweep.specs.declared.extreme.Extreme.{Extreme}

-- the extreme's number of ticks is this one, counted from the origin
abbrev pub IsFromOrigin : ℤ → ℕ → Type 0
IsFromOrigin ticks counted = pos counted ≡ ticks +ℤ pos (2 ^ 75)

-- the end of a sample, and its window
pub record IsEndAt (value start stop : ℤ) (extreme : Extreme) : Type 0 where
  pub end : IsFromOrigin value extreme.end
  pub from : IsFromOrigin start extreme.from
  pub to : IsFromOrigin stop extreme.to

abbrev pub IsExtremeOf : Side → Sample → Extreme → Type 0
IsExtremeOf Low sample extreme = IsEndAt sample.low sample.low_from sample.low_to extreme
IsExtremeOf High sample extreme =
    IsEndAt (neg_ℤ sample.high) sample.high_from sample.high_to extreme

-- no number of ticks is further from zero than a sample's may be
pub record IsLawfulExtreme (extreme : Extreme) : Type 0 where
  pub least_end : 2 ^ 75 ≤ extreme.end + 2 ^ 72
  pub greatest_end : extreme.end ≤ 2 ^ 75 + 2 ^ 72
  pub begins : 2 ^ 75 ≤ extreme.from + 2 ^ 72
  pub in_order : extreme.from ≤ extreme.to
  pub ends : extreme.to ≤ 2 ^ 75 + 2 ^ 72

-- the extreme is of a sample of this server
pub record IsOfServer (side : Side) (samples : List Sample) (server : ℕ) (extreme : Extreme)
    : Type 0 where
  pub sample : Sample
  pub stands : slice_get samples extreme.number ≡ Some sample
  pub of_server : sample.server ≡ server
  pub is : IsExtremeOf side sample extreme
  pub lawful : IsLawfulExtreme extreme

-- the extremes of all samples of this server, in the order of their numbers
pub record AreExtremesOf (side : Side) (samples : List Sample) (server : ℕ)
    (extremes : List Extreme) : Type 0 where
  pub few : length extremes ≤ length samples
  pub each : (index : ℕ) (extreme : Extreme) → slice_get extremes index ≡ Some extreme →
      IsOfServer side samples server extreme
  pub all : (number : ℕ) (sample : Sample) → slice_get samples number ≡ Some sample →
      sample.server ≡ server →
      (index : ℕ) × (extreme : Extreme) × (slice_get extremes index ≡ Some extreme)
      × (extreme.number ≡ number)
  pub rising : (i j : ℕ) (a b : Extreme) → i < j → slice_get extremes i ≡ Some a →
      slice_get extremes j ≡ Some b → a.number < b.number

-- the same with time running backwards
abbrev pub mirrored_extreme : Extreme → Extreme
mirrored_extreme extreme = record extreme {
  from = 2 ^ 76 - extreme.to;
  to = 2 ^ 76 - extreme.from;
}

-- as time runs forwards, or as it runs backwards
abbrev pub seen_one : Bool → Extreme → Extreme
seen_one false extreme = extreme
seen_one true extreme = mirrored_extreme extreme

abbrev pub seen : Bool → List Extreme → List Extreme
seen false extremes = extremes
seen true extremes = map mirrored_extreme extremes
