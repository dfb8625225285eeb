-- The pairs of exchanges that show why a group is broken, or why two groups conflict.
--
-- A pair goes by the numbers of its exchanges: first the one whose low mark it is, then the one
-- whose high mark it is. An exchange that is impossible by itself is a pair with itself. Of several
-- pairs the first counts, by the first number and then by the second.
use Rattle.std.specs.Prelude.{◌≡◌, ℕ, ◌<◌, ◌≤◌, ◌⊎◌, Bool, true, ◌||◌, List, Some, slice_get, All, AllPairs, Any}
use Rattle.feasibility.specs.Common.{ClaimData, low_mark, high_mark, IsPossible, AreCompatible, Exchange}
use Rattle.feasibility.specs.Cover.{group_of, size_of, DoConflict, IsBroken}

-- the numbers of two exchanges, or twice of one
pub record Pair : Type 0 where
  pub low : ℕ
  pub high : ℕ

-- a low mark and a high mark that aren't compatible, or one exchange that is impossible by itself
abbrev pub IsImpossiblePair : ClaimData → Pair → Exchange → Exchange → Type 0
IsImpossiblePair claim pair low high =
    ¬ (AreCompatible claim.drift_ppb (low_mark claim.reading low) (high_mark claim.reading high))
    ⊎ ((pair.low ≡ pair.high) × ¬ (IsPossible claim.reading low))

-- the one exchange is of the one group and the other of the other, either way
abbrev pub AreOfGroups : ClaimData → ℕ → ℕ → Exchange → Exchange → Type 0
AreOfGroups claim a b x y = ((group_of claim x ≡ a) × (group_of claim y ≡ b))
    ⊎ ((group_of claim x ≡ b) × (group_of claim y ≡ a))

-- a pair of exchanges of these two groups, or of this one, that can't both be of true servers
pub record IsContradiction (claim : ClaimData) (xs : List Exchange) (a b : ℕ) (pair : Pair)
    : Type 0 where
  pub low : Exchange
  pub high : Exchange
  pub low_stands : slice_get xs pair.low ≡ Some low
  pub high_stands : slice_get xs pair.high ≡ Some high
  pub of_groups : AreOfGroups claim a b low high
  pub impossible : IsImpossiblePair claim pair low high

-- a pair comes before another, or is that one
abbrev pub IsNoLater : Pair → Pair → Type 0
IsNoLater pair other =
    (pair.low < other.low) ⊎ ((pair.low ≡ other.low) × (pair.high ≤ other.high))

-- the first of them
pub record IsFirstContradiction (claim : ClaimData) (xs : List Exchange) (a b : ℕ) (pair : Pair)
    : Type 0 where
  pub is : IsContradiction claim xs a b pair
  pub first : (other : Pair) → IsContradiction claim xs a b other → IsNoLater pair other

-- there is one
abbrev pub HasContradiction : ClaimData → List Exchange → ℕ → ℕ → Type 0
HasContradiction claim xs a b = (pair : Pair) × IsContradiction claim xs a b pair

-- ---- all of them

-- a broken group, under its own number twice, or two groups that conflict, of which neither is
-- broken and the lesser number comes first
abbrev pub AreListed : ClaimData → List Exchange → ℕ → ℕ → Type 0
AreListed claim xs a b = ((a ≡ b) × IsBroken claim xs a)
    ⊎ ((a < b) × ¬ (IsBroken claim xs a) × ¬ (IsBroken claim xs b) × DoConflict claim xs a b)

-- such groups, and the pair that shows it
pub record ShownConflict : Type 0 where
  pub a : ℕ
  pub b : ℕ
  pub pair : Pair

-- the one comes before the other, by the numbers of their groups
abbrev pub IsBefore : ShownConflict → ShownConflict → Type 0
IsBefore one other = (one.a < other.a) ⊎ ((one.a ≡ other.a) × (one.b < other.b))

-- these are all the conflicts to list, each with its first pair, in the order of their groups
pub record AreAllConflicts (claim : ClaimData) (xs : List Exchange) (listed : List ShownConflict)
    : Type 0 where
  pub each : All (λ conflict. AreListed claim xs conflict.a conflict.b) listed
  pub first : All (λ conflict.
      IsFirstContradiction claim xs conflict.a conflict.b conflict.pair) listed
  pub all : (a b : ℕ) → AreListed claim xs a b
      → Any (λ conflict. (conflict.a ≡ a) × (conflict.b ≡ b)) listed
  pub order : AllPairs IsBefore listed

-- a set of groups has an end of each
abbrev pub HoldsAnEnd : (ℕ → Bool) → List ShownConflict → Type 0
HoldsAnEnd is_in listed = All (λ conflict. (is_in conflict.a || is_in conflict.b) ≡ true) listed

-- no set of as few groups as may be false has
abbrev pub NoFewHoldAnEnd : ClaimData → List ShownConflict → Type 0
NoFewHoldAnEnd claim listed =
    (is_in : ℕ → Bool) → size_of claim is_in ≤ claim.false_max → ¬ (HoldsAnEnd is_in listed)
