-- The errors for which exchanges leave room, as intervals.
--
-- An exchange leaves room for the errors between two ends, or for none. So each server does, over
-- all its exchanges: the errors that all of them leave room for. A server without an exchange
-- leaves room for every error.
use Rattle.std.specs.Prelude.{◌≡◌, ◌<◌, ◌≤◌, ◌^◌, ℕ, ℤ, pos, ◌==◌, unsigned_abs, nat_le, Bool, ◌&&◌, not, List}
use Rattle.finder.specs.Common.{list_any, slice_index_or, ClaimData, leaves_out, Interval, Exchange, false_group_count, admits}

-- an exchange of this server leaves no room for the error
abbrev pub refuses : ℤ → List Exchange → ℤ → ℕ → Bool
refuses allowance xs error server =
    list_any (λ x. (x.server == server) && not (admits allowance error x)) xs

-- an error is at most 2^64 ticks to either side of zero
abbrev pub IsNear : ℤ → Type 0
IsNear error = unsigned_abs error ≤ 2 ^ 64

-- this interval has the errors for which a server leaves room
pub record IsRoom (allowance : ℤ) (xs : List Exchange) (server : ℕ) (room : Interval) : Type 0 where
  pub leaves_out_refused : (error : ℤ) → IsNear error →
      leaves_out room error ≡ refuses allowance xs error server
  pub low : unsigned_abs room.lo ≤ 2 ^ 80
  pub high : unsigned_abs room.hi ≤ 2 ^ 80

-- the interval of a server in a list of them
abbrev pub room_at : List Interval → ℕ → Interval
room_at rooms server = slice_index_or rooms server (record { lo = pos 0; hi = pos 0 })

-- these are the intervals of the servers with numbers below 32
abbrev pub AreRooms : ℤ → List Exchange → List Interval → Type 0
AreRooms allowance xs rooms =
    (server : ℕ) → server < 32 → IsRoom allowance xs server (room_at rooms server)

-- a server leaves no room for an error, by its interval
abbrev pub refused_by : List Interval → ℤ → ℕ → Bool
refused_by rooms error server = leaves_out (room_at rooms server) error

-- at most `false_max` groups hold such a server
abbrev pub possible_by : List Interval → ClaimData → ℤ → Bool
possible_by rooms claim error =
    nat_le (false_group_count claim.groups (refused_by rooms error)) claim.false_max
