-- The marks of a group, each under the number of its exchange.
use Rattle.std.specs.Prelude.{◌≡◌, ℕ, ◌+◌, ◌<◌, ◌==◌, Bool, if◌then◌else◌, List, [], ◌∷◌, length, slice_index, Option, MatchOption, All}
use Rattle.feasibility.specs.Common.{slice_index_or, ClaimData, IsFirstConflict, IsWithinRange, IsLawful as IsLawfulExchange, Exchange}
use Rattle.feasibility.specs.ConflictTable.{IsConflictTable}
use Rattle.feasibility.specs.Conflicts.{ConflictData}
use Rattle.feasibility.specs.Contradiction.{Pair, HasContradiction, IsFirstContradiction}
use Rattle.feasibility.specs.Cover.{group_of}
use Rattle.feasibility.specs.GroupMarks.{group_lows, group_highs}
use Rattle.feasibility.specs.PairMarks.{pair_of, IsImpossibleAt, IsFirstImpossible}
use Rattle.feasibility.specs.declared.contradiction.Contradiction.{Contradiction}
use Rattle.feasibility.specs.declared.numbered_marks.NumberedMarks.{NumberedMarks}

-- the numbers of the elements that pass a test, if the first has this number
abbrev pub numbers_from : {X : Type 0} → (X → Bool) → ℕ → List X → List ℕ
numbers_from p k [] = []
numbers_from p k (x ∷ xs) =
    if p x then (k ∷ numbers_from p (k + 1) xs) else numbers_from p (k + 1) xs

-- the numbers of a group's exchanges
abbrev pub group_numbers : ClaimData → List Exchange → ℕ → List ℕ
group_numbers claim xs group = numbers_from (λ x. group_of claim x == group) 0 xs

-- each number has two marks, which are in range
pub record IsNumbered (marks : NumberedMarks) : Type 0 where
  pub low_count : length marks.lows.items ≡ length marks.numbers.items
  pub high_count : length marks.highs.items ≡ length marks.numbers.items
  pub low_range : All IsWithinRange marks.lows.items
  pub high_range : All IsWithinRange marks.highs.items

-- these are a group's numbers and marks, and the first of its exchanges that is impossible alone
pub record AreNumberedOf (claim : ClaimData) (xs : List Exchange) (group : ℕ)
    (marks : NumberedMarks) : Type 0 where
  pub numbers : marks.numbers.items ≡ group_numbers claim xs group
  pub lows : marks.lows.items ≡ group_lows claim xs group
  pub highs : marks.highs.items ≡ group_highs claim xs group
  pub alone : MatchOption marks.alone ((k : ℕ) → ¬ (IsImpossibleAt claim xs group k))
      (λ k. IsFirstImpossible claim xs group k)

-- so it is of the groups from 0 on
abbrev pub AreNumberedInOrder : ClaimData → List Exchange → List NumberedMarks → Type 0
AreNumberedInOrder claim xs marks = (group : ℕ) (d : NumberedMarks) → group < length marks
    → AreNumberedOf claim xs group (slice_index_or marks group d)

-- the exchanges of the first low mark of the one and high mark of the other that aren't compatible
pub record IsFirstApart (ppb : ℕ) (one other : NumberedMarks) (pair : Pair) : Type 0 where
  pub i : ℕ
  pub j : ℕ
  pub first : IsFirstConflict ppb one.lows.items other.highs.items i j
  pub low : pair.low ≡ slice_index one.numbers.items i
  pub high : pair.high ≡ slice_index other.numbers.items j

-- the first contradiction of two groups, or of one, if there is any
abbrev pub IsFirstIfAny : ClaimData → List Exchange → ℕ → ℕ → Option Contradiction → Type 0
IsFirstIfAny claim xs a b found = MatchOption found (¬ (HasContradiction claim xs a b))
    (λ pair. IsFirstContradiction claim xs a b (pair_of pair))

-- what conflicts are told by: a table of them, and the marks of all groups
pub record AreGrounds (claim : ClaimData) (xs : List Exchange) (table : ConflictData)
    (marks : List NumberedMarks) : Type 0 where
  pub each : All (IsLawfulExchange (length claim.servers)) xs
  pub table_decides : IsConflictTable claim xs table.is_broken table.is_edge
  pub in_order : AreNumberedInOrder claim xs marks
