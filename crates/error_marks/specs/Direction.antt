-- Marks gone through in the order of their places, once for each way in which the error may change.
--
-- From a low mark to a high mark at its place or behind it the error has to fall, and from a high
-- mark to a low mark behind it it has to rise. Both times the marks that come first are held
-- against those behind: the line of the first may not lie beyond that of the second.
use Rattle.std.specs.Prelude.{ℕ, ◌<◌, ◌≤◌, ℤ, ◌≤ℤ◌, neg_ℤ, List, length}
use Rattle.std.specs.List.{slice_index_or, All}
use Rattle.error_marks.specs.Line.{falling_line, rising_line}
use Rattle.error_marks.specs.declared.mark.Mark.{Mark}
use Rattle.error_marks.specs.declared.direction.Direction.{Direction}
use Rattle.error_marks.specs.declared.direction.Direction.TheVariants.{Falling, Rising}

-- how far the line lies that leads from a mark onwards: up if the error falls, down if it rises
abbrev pub line_along : Direction → ℕ → Mark → ℤ
line_along Falling ppb m = falling_line ppb m
line_along Rising ppb m = neg_ℤ (rising_line ppb m)

-- a mark stands no further on than another
abbrev pub Precedes : Mark → Mark → Type 0
Precedes a b = a.place ≤ℤ b.place

-- a mark's line lies no further than another's
abbrev pub IsBelow : Direction → ℕ → Mark → Mark → Type 0
IsBelow direction ppb a b = line_along direction ppb a ≤ℤ line_along direction ppb b

-- where a mark precedes another its line lies no further
abbrev pub KeepsBelow : Direction → ℕ → Mark → Mark → Type 0
KeepsBelow direction ppb low high = Precedes low high → IsBelow direction ppb low high

-- so it is of all of them
abbrev pub AllKeepBelow : Direction → ℕ → List Mark → List Mark → Type 0
AllKeepBelow direction ppb lows highs =
    All (λ high. All (λ low. KeepsBelow direction ppb low high) lows) highs

-- no mark stands further on than a later one
abbrev pub IsInOrder : List Mark → Type 0
IsInOrder marks = (i j : ℕ) (d : Mark) → i ≤ j → j < length marks
    → Precedes (slice_index_or marks i d) (slice_index_or marks j d)
