-- The highest marks on a way through the places.
--
-- From a mark's place on its error is lowered by `drift` for each `rate` of the way, and rounded
-- down to a tick. So `rate` times its error and `drift` times its place, together its height,
-- decide which of several marks is moved to the highest end, wherever they are moved to. A peak is
-- a mark that stands higher than all before it. The last peak up to a place is the highest of all
-- marks up to there.
use Rattle.std.specs.Prelude.{◌≡◌, ℕ, ◌<◌, ◌≤◌, ◌≢◌, ℤ, pos, ◌+ℤ◌, ◌-ℤ◌, ◌*ℤ◌, ◌≤ℤ◌, ◌<ℤ◌, List, Option, Some, MatchOption, slice_get}
use Rattle.std.specs.Int.{int_div_euclid}
use Rattle.cover_finder.specs.Common.{Mark}
use Rattle.cover_finder.specs.declared.peak.End.{End}
use Rattle.cover_finder.specs.declared.peak.Numbered.{Numbered}
use Rattle.cover_finder.specs.declared.peak.Peak.{Peak}
use Rattle.cover_finder.specs.declared.peak.Ridge.{Ridge}

-- how high a mark stands, in parts of a tick
abbrev pub height_of : ℕ → ℕ → Mark → ℤ
height_of drift rate mark = (pos rate *ℤ mark.error) +ℤ (pos drift *ℤ mark.place)

-- the error that a mark of this height is moved to as far as a place
abbrev pub level_at : ℕ → ℕ → ℤ → ℤ → ℤ
level_at drift rate far height =
    int_div_euclid (height -ℤ (pos drift *ℤ far)) (pos rate)

-- a peak is one of the marks from one number up to another
pub record IsPeakOf (drift rate : ℕ) (marks : List Numbered) (from to : ℕ) (peak : Peak)
    : Type 0 where
  pub index : ℕ
  pub one : Numbered
  pub from_here : from ≤ index
  pub to_there : index < to
  pub stands : slice_get marks index ≡ Some one
  pub place : peak.place ≡ one.mark.place
  pub height : peak.height ≡ height_of drift rate one.mark
  pub number : peak.number ≡ one.number

-- some peak comes no later than this place, and is no lower than this height
pub record IsTopped (peaks : List Peak) (place height : ℤ) : Type 0 where
  pub index : ℕ
  pub peak : Peak
  pub stands : slice_get peaks index ≡ Some peak
  pub no_later : peak.place ≤ℤ place
  pub no_lower : height ≤ℤ peak.height

-- places and heights don't fall from peak to peak
abbrev pub PeaksRise : List Peak → Type 0
PeaksRise peaks = (i j : ℕ) (a b : Peak) → i ≤ j → slice_get peaks i ≡ Some a
    → slice_get peaks j ≡ Some b → (a.place ≤ℤ b.place) × (a.height ≤ℤ b.height)

-- the peaks of the marks from one number up to another
pub record ArePeaksOf (drift rate : ℕ) (marks : List Numbered) (from to : ℕ) (peaks : List Peak)
    : Type 0 where
  pub each : (i : ℕ) (peak : Peak) → slice_get peaks i ≡ Some peak
      → IsPeakOf drift rate marks from to peak
  pub all : (index : ℕ) (one : Numbered) → from ≤ index → index < to
      → slice_get marks index ≡ Some one
      → IsTopped peaks one.mark.place (height_of drift rate one.mark)
  pub rise : PeaksRise peaks

-- the ridge of these
pub record IsRidgeOf (drift rate : ℕ) (marks : List Numbered) (from to : ℕ) (ridge : Ridge)
    : Type 0 where
  pub drift_is : ridge.drift ≡ drift
  pub rate_is : ridge.rate ≡ rate
  pub peaks : ArePeaksOf drift rate marks from to ridge.peaks.items

-- none of the marks from one number up to another comes behind a place
abbrev pub NoneIsBehind : List Numbered → ℕ → ℕ → ℤ → Type 0
NoneIsBehind marks from to place = (i : ℕ) (one : Numbered) → from ≤ i → i < to
    → slice_get marks i ≡ Some one → one.mark.place ≤ℤ place

-- numbers from one up to another are these numbers and one more
pub record AreWithOne (from to one from' to' : ℕ) : Type 0 where
  pub from_here : from' ≤ one
  pub to_there : one < to'
  pub no_later : from' ≤ from
  pub no_sooner : to ≤ to'
  pub others : (i : ℕ) → from' ≤ i → i < to' → i ≢ one → (from ≤ i) × (i < to)

-- the first so many peaks are those up to a place
pub record IsCountUpto (peaks : List Peak) (place : ℤ) (count : ℕ) : Type 0 where
  pub upto : (i : ℕ) (peak : Peak) → i < count → slice_get peaks i ≡ Some peak
      → peak.place ≤ℤ place
  pub beyond : (i : ℕ) (peak : Peak) → count ≤ i → slice_get peaks i ≡ Some peak
      → place <ℤ peak.place

-- of the marks up to a place this is the end of one as far as another place, and none has a higher
pub record IsHighestUpto (drift rate : ℕ) (marks : List Numbered) (place far : ℤ) (end : End)
    : Type 0 where
  pub index : ℕ
  pub one : Numbered
  pub stands : slice_get marks index ≡ Some one
  pub upto : one.mark.place ≤ℤ place
  pub number : end.number ≡ one.number
  pub error : end.error ≡ level_at drift rate far (height_of drift rate one.mark)
  pub none_higher : (k : ℕ) (other : Numbered) → slice_get marks k ≡ Some other
      → other.mark.place ≤ℤ place
      → level_at drift rate far (height_of drift rate other.mark) ≤ℤ end.error

-- that end, or none if each mark comes behind the place
abbrev pub IsHighestIfAny : ℕ → ℕ → List Numbered → ℤ → ℤ → Option End → Type 0
IsHighestIfAny drift rate marks place far found = MatchOption found
    ((k : ℕ) (one : Numbered) → slice_get marks k ≡ Some one → place <ℤ one.mark.place)
    (IsHighestUpto drift rate marks place far)
