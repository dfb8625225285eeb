-- The highest level that is reached, and the first index that reaches it.
--
-- An extreme is early for a stretch if the middle of its window isn't after that of the stretch.
-- Then the greatest distance between the two runs from the window's begin to the stretch's end.
-- If time runs backwards, the others are early. So whether an extreme reaches a level is decided
-- by one number of the extreme and one of the stretch, in one of the two directions.
--
-- A level is a whole number. If an index reaches a level, it reaches each lower one. An extreme
-- reaches a level over a stretch if its end, moved down for the stretch, is at least the level.
use Rattle.std.specs.Prelude.{◌≡◌, ℕ, ◌+◌, ◌-◌, ◌*◌, ◌≤◌, max, List, Option, Some, None, slice_get, Bool, nat_lt, ◌==◌, ◌&&◌, ◌||◌, if◌then◌else◌, length, map, reverse}
use Rattle.sweep.specs.Extreme.{mirrored_extreme}
use Rattle.sweep.specs.UnsignedStretch.{mirrored_stretch}
use Rattle.sample_interval.specs.Widening.{widening, billion}
use Rattle.sweep.specs.declared.extreme.Extreme.{Extreme}
use Rattle.sweep.specs.declared.unsigned_stretch.UnsignedStretch.{UnsignedStretch}
use Rattle.sweep.specs.declared.top.Top.{Top}

pub record IsTop (reaches : ℕ → ℕ → Type 0) (top : Top) : Type 0 where
  pub reached : reaches top.index top.level
  pub highest : (index level : ℕ) → reaches index level → level ≤ top.level
  pub first : (index : ℕ) → reaches index top.level → top.index ≤ index

-- none if no level is reached
abbrev pub IsTopOf : (ℕ → ℕ → Type 0) → Option Top → Type 0
IsTopOf reaches None = (index level : ℕ) → ¬ reaches index level
IsTopOf reaches (Some top) = IsTop reaches top

-- is the one above the other: at a higher level, or at the same level and an index before it
abbrev pub is_above : Top → Top → Bool
is_above one other =
    nat_lt other.level one.level || ((one.level == other.level) && nat_lt one.index other.index)

-- the one that is above the other
abbrev pub higher_of : Option Top → Option Top → Option Top
higher_of None other = other
higher_of (Some one) None = Some one
higher_of (Some one) (Some other) = if is_above other one then Some other else Some one

-- the greatest distance between the extreme's window and the stretch
abbrev pub distance : Extreme → UnsignedStretch → ℕ
distance extreme stretch = max (stretch.end - extreme.from) (extreme.to - stretch.begin)

-- moved down for the stretch, the extreme's end is at least the level
pub record IsAtLeast (ppb : ℕ) (extremes : List Extreme) (stretch : UnsignedStretch)
    (index level : ℕ)
    : Type 0 where
  pub extreme : Extreme
  pub stands : slice_get extremes index ≡ Some extreme
  pub at_least : level + widening ppb (distance extreme stretch) ≤ extreme.end

-- the middle of the extreme's window isn't after that of the stretch
abbrev pub IsEarly : Extreme → UnsignedStretch → Type 0
IsEarly extreme stretch = extreme.from + extreme.to ≤ stretch.begin + stretch.end

-- an early extreme's end and begin in one number, which no stretch enters
abbrev pub height : ℕ → Extreme → ℕ
height ppb extreme = (billion - ppb) * extreme.end + ppb * extreme.from

-- the number that a height has to reach for a level over a stretch that ends there
abbrev pub height_for : ℕ → ℕ → ℕ → ℕ
height_for ppb end level = level * (billion - ppb) + ppb * end

-- an early extreme reaches the level: its distance is from its window's begin to the stretch's end
pub record IsEarlyAtLeast (ppb : ℕ) (extremes : List Extreme) (stretch : UnsignedStretch)
    (index level : ℕ)
    : Type 0 where
  pub extreme : Extreme
  pub stands : slice_get extremes index ≡ Some extreme
  pub early : IsEarly extreme stretch
  pub at_least : height_for ppb stretch.end level ≤ height ppb extreme

-- there is one for each of the first n stretches, and this holds of it
pub record AreOver {X : Type 0} (holds : UnsignedStretch → X → Type 0)
    (stretches : List UnsignedStretch) (n : ℕ) (found : List X) : Type 0 where
  pub as_many : length found ≡ n
  pub each : (k : ℕ) (stretch : UnsignedStretch) (one : X) →
      slice_get stretches k ≡ Some stretch → slice_get found k ≡ Some one → holds stretch one

-- the top over each stretch
abbrev pub AreTopsOver : (UnsignedStretch → ℕ → ℕ → Type 0) → List UnsignedStretch →
    List (Option Top) → Type 0
AreTopsOver reaches stretches =
    AreOver (λ stretch. IsTopOf (reaches stretch)) stretches (length stretches)

-- the same of the early extremes
abbrev pub AreEarlyTops : ℕ → List Extreme → List UnsignedStretch → List (Option Top) → Type 0
AreEarlyTops ppb extremes = AreTopsOver (IsEarlyAtLeast ppb extremes)

-- the same for those that are early with time running backwards: the last stretch comes first
abbrev pub AreLateTops : ℕ → List Extreme → List UnsignedStretch → List (Option Top) → Type 0
AreLateTops ppb extremes stretches =
    AreEarlyTops ppb (map mirrored_extreme extremes) (reverse (map mirrored_stretch stretches))

-- the number belongs to the extreme that is highest over the stretch, the first of those
pub record IsTopNumber (ppb : ℕ) (extremes : List Extreme) (stretch : UnsignedStretch) (chosen : ℕ)
    : Type 0 where
  pub top : Top
  pub is_top : IsTop (IsAtLeast ppb extremes stretch) top
  pub extreme : Extreme
  pub stands : slice_get extremes top.index ≡ Some extreme
  pub number : extreme.number ≡ chosen

-- such a number for each stretch
abbrev pub AreTopNumbers : ℕ → List Extreme → List UnsignedStretch → List ℕ → Type 0
AreTopNumbers ppb extremes stretches =
    AreOver (IsTopNumber ppb extremes) stretches (length stretches)
