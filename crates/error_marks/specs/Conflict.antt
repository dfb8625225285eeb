-- The first low mark and high mark that no course keeps.
use Rattle.std.specs.Prelude.{ℕ, ◌<◌, ◌≤◌, List, length}
use Rattle.std.specs.List.{AllWithin, All, HoldsAt}
use Rattle.error_marks.specs.Mark.{AreCompatible}
use Rattle.error_marks.specs.declared.mark.Mark.{Mark}

-- a low mark is compatible with each high mark
abbrev pub FitsAll : ℕ → List Mark → Mark → Type 0
FitsAll ppb highs low = All (λ high. AreCompatible ppb low high) highs

-- the high mark with this number is the first that isn't compatible with a low mark
pub record IsFirstAgainst (ppb : ℕ) (low : Mark) (highs : List Mark) (j : ℕ) : Type 0 where
  pub within : j < length highs
  pub conflicts : HoldsAt (λ high. ¬ (AreCompatible ppb low high)) highs j
  pub earlier : AllWithin (λ high. AreCompatible ppb low high) highs 0 j

-- so many low marks in front are compatible with each high mark, and no more
pub record AreInFront (ppb : ℕ) (lows highs : List Mark) (n : ℕ) : Type 0 where
  pub within : n ≤ length lows
  pub fit : AllWithin (FitsAll ppb highs) lows 0 n
  pub next : n < length lows → HoldsAt (λ low. ¬ (FitsAll ppb highs low)) lows n

-- these two marks aren't compatible; every earlier low mark is compatible with every high mark, and
-- this low mark with every earlier high mark
pub record IsFirstConflict (ppb : ℕ) (lows highs : List Mark) (i j : ℕ) : Type 0 where
  pub within : i < length lows
  pub first_of_it : HoldsAt (λ low. IsFirstAgainst ppb low highs j) lows i
  pub earlier : AllWithin (FitsAll ppb highs) lows 0 i
