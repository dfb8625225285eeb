-- Exchanges that are impossible by themselves, and what the program says of pairs.
use Rattle.std.specs.Prelude.{◌≡◌, ℕ, ◌<◌, ◌==◌, nat_lt, Bool, ◌&&◌, ◌||◌, not, if◌then◌else◌, List, Option, None, Some, slice_get}
use Rattle.feasibility.specs.Common.{ClaimData, IsPossible, Exchange}
use Rattle.feasibility.specs.Contradiction.{Pair, ShownConflict}
use Rattle.feasibility.specs.Cover.{group_of}
use Rattle.feasibility.specs.declared.contradiction.Contradiction.{Contradiction}
use Rattle.feasibility.specs.declared.shown_conflicts.Conflict.{Conflict}

-- an exchange of a group is impossible by itself
pub record IsImpossibleAt (claim : ClaimData) (xs : List Exchange) (group k : ℕ) : Type 0 where
  pub exchange : Exchange
  pub stands : slice_get xs k ≡ Some exchange
  pub in_group : group_of claim exchange ≡ group
  pub impossible : ¬ (IsPossible claim.reading exchange)

-- it is the first
pub record IsFirstImpossible (claim : ClaimData) (xs : List Exchange) (group k : ℕ) : Type 0 where
  pub is : IsImpossibleAt claim xs group k
  pub first : (earlier : ℕ) → earlier < k → ¬ (IsImpossibleAt claim xs group earlier)

-- what a value of the program says
abbrev pub pair_of : Contradiction → Pair
pair_of c = record { low = c.low; high = c.high }

abbrev pub conflict_data : Conflict → ShownConflict
conflict_data c = record { a = c.a; b = c.b; pair = pair_of c.pair }

-- the one comes no later than the other
abbrev pub is_no_later : Contradiction → Contradiction → Bool
is_no_later one other =
    nat_lt one.low other.low || ((one.low == other.low) && not (nat_lt other.high one.high))

-- the one that comes first, of those that there are
abbrev pub earlier : Option Contradiction → Option Contradiction → Option Contradiction
earlier None other = other
earlier (Some one) None = Some one
earlier (Some one) (Some other) = if is_no_later one other then Some one else Some other

-- one exchange in place of two
abbrev pub twice : Option ℕ → Option Contradiction
twice None = None
twice (Some k) = Some (record { low = k; high = k })
