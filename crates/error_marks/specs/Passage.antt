-- How far the low marks were passed on the way to a high mark.
use Rattle.std.specs.Prelude.{ℕ, ◌<◌, ◌≤◌, List, length}
use Rattle.std.specs.List.{slice_index_or, AllWithin, HoldsAt}
use Rattle.error_marks.specs.Direction.{Precedes, IsBelow}
use Rattle.error_marks.specs.declared.mark.Mark.{Mark}
use Rattle.error_marks.specs.declared.direction.Direction.{Direction}
use Rattle.error_marks.specs.declared.sweep.Passage.{Passage}

-- no line of a passed mark lies higher than that of the mark with this number, which is one of them
pub record IsHighest (direction : Direction) (ppb : ℕ) (lows : List Mark) (passage : Passage)
    : Type 0 where
  pub at_first : passage.highest ≤ passage.passed
  pub passed : 0 < passage.passed → passage.highest < passage.passed
  pub others : (k : ℕ) (d : Mark) → k < passage.passed
      → IsBelow direction ppb (slice_index_or lows k d) (slice_index_or lows passage.highest d)

-- exactly the low marks that precede a high mark are passed, if the low marks are in order
pub record HasPassed (direction : Direction) (ppb : ℕ) (lows : List Mark) (high : Mark)
    (passage : Passage) : Type 0 where
  pub within : passage.passed ≤ length lows
  pub precede : AllWithin (λ low. Precedes low high) lows 0 passage.passed
  pub next : passage.passed < length lows
      → HoldsAt (λ low. ¬ (Precedes low high)) lows passage.passed
  pub highest : IsHighest direction ppb lows passage
