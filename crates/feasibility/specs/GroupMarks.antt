-- The marks of a group, and what they say of it and of another group.
use Rattle.std.specs.Prelude.{ℕ, ◌==◌, Bool, not, List, map, filter, slice_index, All}
use Rattle.feasibility.specs.Common.{ClaimData, low_mark, high_mark, IsPossible, Mark, Exchange}
use Rattle.feasibility.specs.Cover.{group_of}
use Rattle.feasibility.specs.TrueMarks.{AreAllCompatible}

-- a server isn't of a group
abbrev pub is_outside : List ℕ → ℕ → ℕ → Bool
is_outside groups group server = not (slice_index groups server == group)

-- the exchanges with servers of a group
abbrev pub group_exchanges : ClaimData → List Exchange → ℕ → List Exchange
group_exchanges claim xs group = filter (λ x. group_of claim x == group) xs

-- their low marks
abbrev pub group_lows : ClaimData → List Exchange → ℕ → List Mark
group_lows claim xs group = map (low_mark claim.reading) (group_exchanges claim xs group)

-- their high marks
abbrev pub group_highs : ClaimData → List Exchange → ℕ → List Mark
group_highs claim xs group = map (high_mark claim.reading) (group_exchanges claim xs group)

-- a group can do without a false server: its exchanges are possible, and its marks are compatible
pub record IsSound (claim : ClaimData) (xs : List Exchange) (group : ℕ) : Type 0 where
  pub possible : All (IsPossible claim.reading) (group_exchanges claim xs group)
  pub compatible :
      AreAllCompatible claim.drift_ppb (group_lows claim xs group) (group_highs claim xs group)

-- two groups can both do without: the low marks of each are compatible with the other's high marks
pub record DoGroupsAgree (claim : ClaimData) (xs : List Exchange) (a b : ℕ) : Type 0 where
  pub one_way : AreAllCompatible claim.drift_ppb (group_lows claim xs a) (group_highs claim xs b)
  pub other_way : AreAllCompatible claim.drift_ppb (group_lows claim xs b) (group_highs claim xs a)
