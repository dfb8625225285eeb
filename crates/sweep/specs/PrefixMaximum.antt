-- The highest of the extremes that are early, for any stretch.
--
-- Which extremes are early for a stretch is decided by twice the middle of their windows, their
-- place. So it's enough to keep, in the order of places, the extremes that are higher than all that
-- come before them: the last of these that is early for a stretch is the highest that is.
use Rattle.std.specs.Prelude.{◌≡◌, ℕ, ◌+◌, ◌-◌, ◌<◌, ◌≤◌, ◌⊎◌, List, length, Some, slice_get}
use Rattle.sweep.specs.Top.{IsEarlyAtLeast, height}
use Rattle.sweep.specs.declared.extreme.Extreme.{Extreme}
use Rattle.sweep.specs.declared.prefix_maximum.PrefixMaximum.{PrefixMaximum}
use Rattle.sweep.specs.declared.unsigned_stretch.UnsignedStretch.{UnsignedStretch}

-- a maximum has the place and the height of an extreme
pub record IsMaximumOf (ppb : ℕ) (extremes : List Extreme) (maximum : PrefixMaximum) : Type 0 where
  pub index : ℕ
  pub extreme : Extreme
  pub stands : slice_get extremes index ≡ Some extreme
  pub place : maximum.place ≡ extreme.from + extreme.to
  pub height : maximum.height ≡ height ppb extreme

-- some maximum comes no later than this place, and is no lower than this height
pub record IsTopped (maxima : List PrefixMaximum) (place height : ℕ) : Type 0 where
  pub index : ℕ
  pub maximum : PrefixMaximum
  pub stands : slice_get maxima index ≡ Some maximum
  pub no_later : maximum.place ≤ place
  pub no_lower : height ≤ maximum.height

-- places and heights rise from maximum to maximum
abbrev pub MaximaRise : List PrefixMaximum → Type 0
MaximaRise maxima = (i j : ℕ) (a b : PrefixMaximum) → i ≤ j → slice_get maxima i ≡ Some a →
    slice_get maxima j ≡ Some b → (a.place ≤ b.place) × (a.height ≤ b.height)

-- the maxima of these extremes
pub record AreMaximaOf (ppb : ℕ) (extremes : List Extreme) (maxima : List PrefixMaximum)
    : Type 0 where
  pub each : (i : ℕ) (maximum : PrefixMaximum) → slice_get maxima i ≡ Some maximum
      → IsMaximumOf ppb extremes maximum
  pub all : (index : ℕ) (extreme : Extreme) → slice_get extremes index ≡ Some extreme →
      IsTopped maxima (extreme.from + extreme.to) (height ppb extreme)
  pub rise : MaximaRise maxima

-- the last maximum before low comes no later than the place, the one at high later. So, as places
-- rise, low is at most the count of those that come no later, and high at least
pub record IsBracket (maxima : List PrefixMaximum) (place low high : ℕ) : Type 0 where
  pub in_order : low ≤ high
  pub within : high ≤ length maxima
  pub upto : (maximum : PrefixMaximum) → 0 < low → slice_get maxima (low - 1) ≡ Some maximum
      → maximum.place ≤ place
  pub beyond : (maximum : PrefixMaximum) → slice_get maxima high ≡ Some maximum
      → place < maximum.place

-- an extreme that comes no later than the place has this height
pub record HasHeightUpto (ppb : ℕ) (extremes : List Extreme) (place height_is : ℕ) : Type 0 where
  pub index : ℕ
  pub extreme : Extreme
  pub stands : slice_get extremes index ≡ Some extreme
  pub no_later : extreme.from + extreme.to ≤ place
  pub height : height_is ≡ height ppb extreme

-- the greatest height of the extremes that come no later than the place, or 0 if there is none
pub record IsHeightUpto (ppb : ℕ) (extremes : List Extreme) (place greatest : ℕ) : Type 0 where
  pub of_one : (greatest ≡ 0) ⊎ HasHeightUpto ppb extremes place greatest
  pub no_lower : (index : ℕ) (extreme : Extreme) → slice_get extremes index ≡ Some extreme →
      extreme.from + extreme.to ≤ place → height ppb extreme ≤ greatest

-- the highest level that an early extreme reaches over the stretch, or 0 if none reaches any
pub record IsEarlyLevel (ppb : ℕ) (extremes : List Extreme) (stretch : UnsignedStretch) (level : ℕ)
    : Type 0 where
  pub reached : (level ≡ 0) ⊎ ((index : ℕ) × IsEarlyAtLeast ppb extremes stretch index level)
  pub highest : (index other : ℕ) → IsEarlyAtLeast ppb extremes stretch index other →
      other ≤ level
