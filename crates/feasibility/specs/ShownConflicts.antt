-- The list of conflicts while it is made, in the order of two numbers of groups.
use Rattle.std.specs.Prelude.{◌≡◌, ◌⊎◌, ℕ, ◌<◌, ◌==◌, nat_lt, Bool, ◌&&◌, not, if◌then◌else◌, List, All, AllPairs, Any}
use Rattle.feasibility.specs.Common.{ClaimData, Exchange}
use Rattle.feasibility.specs.Conflicts.{ConflictData}
use Rattle.feasibility.specs.Contradiction.{AreListed, IsBefore, IsFirstContradiction, ShownConflict}

-- by a table, these are a conflict to list
abbrev pub is_listed : ConflictData → ℕ → ℕ → Bool
is_listed table a b =
    if a == b then table.is_broken a
    else (nat_lt a b && not (table.is_broken a) && not (table.is_broken b) && table.is_edge a b)

-- two groups come before two others
abbrev pub IsAhead : ℕ → ℕ → ℕ → ℕ → Type 0
IsAhead n m a b = (a < n) ⊎ ((a ≡ n) × (b < m))

-- the list is right as far as it was made: of the groups that come before these two
pub record AreListedUpto (claim : ClaimData) (xs : List Exchange) (n m : ℕ)
    (listed : List ShownConflict) : Type 0 where
  pub each : All (λ conflict. AreListed claim xs conflict.a conflict.b) listed
  pub first : All (λ conflict.
      IsFirstContradiction claim xs conflict.a conflict.b conflict.pair) listed
  pub ahead : All (λ conflict. IsAhead n m conflict.a conflict.b) listed
  pub all : (a b : ℕ) → AreListed claim xs a b → IsAhead n m a b
      → Any (λ conflict. (conflict.a ≡ a) × (conflict.b ≡ b)) listed
  pub order : AllPairs IsBefore listed

-- these two groups with what shows it
pub record IsListingOf (claim : ClaimData) (xs : List Exchange) (a b : ℕ) (conflict : ShownConflict)
    : Type 0 where
  pub one : conflict.a ≡ a
  pub other : conflict.b ≡ b
  pub first : IsFirstContradiction claim xs a b conflict.pair
