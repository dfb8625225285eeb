-- The marks of each group, gathered and sorted, as the search for conflicts holds them.
use Rattle.std.specs.Prelude.{◌↔◌, ℕ, ◌<◌, IsTrue, List, length, IsPermutation, All}
use Rattle.feasibility.specs.Common.{slice_index_or, ClaimData, IsInOrder, IsWithinRange, Exchange}
use Rattle.feasibility.specs.GroupMarks.{group_lows, group_highs, IsSound}
use Rattle.feasibility.specs.declared.kept_marks.KeptMarks.{KeptMarks}
use Rattle.feasibility.specs.declared.sorted_marks.SortedMarks.{SortedMarks}

-- low marks and high marks, each in the order of their places
pub record AreSorted (kept : KeptMarks) : Type 0 where
  pub low_range : All IsWithinRange kept.lows.items
  pub high_range : All IsWithinRange kept.highs.items
  pub low_order : IsInOrder kept.lows.items
  pub high_order : IsInOrder kept.highs.items

-- the marks of those that are sound
abbrev pub AreAllSorted : List SortedMarks → Type 0
AreAllSorted = All (λ marks. IsTrue marks.is_sound → AreSorted marks.kept)

-- it is told whether a group can do without a false server, and if it can, these are its marks
pub record AreMarksOf (claim : ClaimData) (xs : List Exchange) (group : ℕ) (marks : SortedMarks)
    : Type 0 where
  pub sound : IsTrue marks.is_sound ↔ IsSound claim xs group
  pub lows : IsTrue marks.is_sound → IsPermutation (group_lows claim xs group) marks.kept.lows.items
  pub highs :
      IsTrue marks.is_sound → IsPermutation (group_highs claim xs group) marks.kept.highs.items
  pub sorted : IsTrue marks.is_sound → AreSorted marks.kept

-- so it is of the groups from 0 on
abbrev pub AreOfGroupsInOrder : ClaimData → List Exchange → List SortedMarks → Type 0
AreOfGroupsInOrder claim xs marks = (group : ℕ) (d : SortedMarks) → group < length marks
    → AreMarksOf claim xs group (slice_index_or marks group d)
