-- What servers say over any stretch, by tables of their marks.
use Rattle.std.specs.Prelude.{◌≡◌, ℕ, ◌+◌, ◌-◌, ◌<◌, ◌≤◌, neg_ℤ, ℤ, Bool, false, true, List, length, All, AllPairs, Any, Some, Option, MatchOption, slice_get, slice_index, if◌then◌else◌}
use Rattle.std.specs.List.{Contains}
use Rattle.cover_finder.specs.Common.{ClaimData, Exchange, IsSaid, Mark, Part, Stretch, billion, high_mark, low_mark, part_of}
use Rattle.cover_finder.specs.Hull.{IsWhole}
use Rattle.cover_finder.specs.Side.{IsSideOf}
use Rattle.cover_finder.specs.declared.peak.Numbered.{Numbered}
use Rattle.cover_finder.specs.declared.side.Side.{Side}
use Rattle.cover_finder.specs.declared.table.Table.{Table}

-- a high mark with its error turned
abbrev pub turned_high : ℤ → Exchange → Mark
turned_high reading x = record {
  place = (high_mark reading x).place;
  error = neg_ℤ (high_mark reading x).error;
}

-- a mark of an exchange
abbrev pub mark_of : Bool → ℤ → Exchange → Mark
mark_of is_high reading x = if is_high then turned_high reading x else low_mark reading x

-- the mark of an exchange with its number
abbrev pub numbered : (Exchange → Mark) → ℕ → Exchange → Numbered
numbered of number x = record { mark = of x; number = number }

-- a mark is that of one of a server's exchanges
pub record IsMarkOf (of : Exchange → Mark) (xs : List Exchange) (server : ℕ) (one : Numbered)
    : Type 0 where
  pub exchange : Exchange
  pub stands : slice_get xs one.number ≡ Some exchange
  pub of_server : exchange.server ≡ server
  pub mark : one.mark ≡ of exchange

-- the marks of a server's first so many exchanges
pub record AreMarksUpto (of : Exchange → Mark) (xs : List Exchange) (server count : ℕ)
    (marks : List Numbered) : Type 0 where
  pub each : All (IsMarkOf of xs server) marks
  pub all : (number : ℕ) (x : Exchange) → number < count → slice_get xs number ≡ Some x
      → x.server ≡ server → Contains marks (numbered of number x)

-- the mark of the exchange with this number, if it is of a server
abbrev pub IsMarkIfOf : (Exchange → Mark) → List Exchange → ℕ → ℕ → Option Numbered → Type 0
IsMarkIfOf of xs server number found = MatchOption found
    ((x : Exchange) → slice_get xs number ≡ Some x → ¬ (x.server ≡ server))
    (λ one. (one.number ≡ number) × IsMarkOf of xs server one)

-- the rate by which an end is moved towards a stretch's end: high marks rise, low marks fall
abbrev pub onwards : Bool → ℕ → ℕ
onwards is_high ppb = if is_high then billion + ppb else billion - ppb

-- a server has no exchange
abbrev pub HasNone : List Exchange → ℕ → Type 0
HasNone xs server = (number : ℕ) (x : Exchange) → slice_get xs number ≡ Some x
    → ¬ (x.server ≡ server)

-- the side of the marks of a server that has some
pub record IsSideOfServer (of : Exchange → Mark) (drift onwards back : ℕ) (xs : List Exchange)
    (server : ℕ) (side : Side) : Type 0 where
  pub marks : List Numbered
  pub are : AreMarksUpto of xs server (length xs) marks
  pub some : 0 < length marks
  pub side_of : IsSideOf drift onwards back marks side

-- the table of a server: its low marks are moved down by the fall towards a stretch's end and by
-- the rise towards its begin, its high marks up by the rise and by the fall
pub record IsTableOf (claim : ClaimData) (xs : List Exchange) (table : Table) : Type 0 where
  pub lows : IsSideOfServer (low_mark claim.reading) claim.drift_ppb (billion - claim.drift_ppb)
      (billion + claim.drift_ppb) xs table.server table.lows
  pub highs : IsSideOfServer (turned_high claim.reading) claim.drift_ppb
      (billion + claim.drift_ppb) (billion - claim.drift_ppb) xs table.server table.highs

-- a table for each server that has an exchange, in the order of the servers
pub record AreTablesOf (claim : ClaimData) (xs : List Exchange) (tables : List Table)
    : Type 0 where
  pub each : All (IsTableOf claim xs) tables
  pub has : (number : ℕ) (x : Exchange) → slice_get xs number ≡ Some x
      → Any (λ table. table.server ≡ x.server) tables
  pub rising : AllPairs (λ a b. a.server < b.server) tables

-- tables of servers below a number, at most as many as a set of groups may have
pub record AreListed (servers : ℕ) (tables : List Table) : Type 0 where
  pub few : length tables ≤ 32
  pub listed : All (λ table. table.server < servers) tables

-- a part is what these exchanges of a server say, and all that the server says
pub record IsAllSaid (claim : ClaimData) (xs : List Exchange) (stretch : Stretch)
    (entry : ℕ × ℕ) (part : Part) : Type 0 where
  pub low : Exchange
  pub high : Exchange
  pub low_stands : slice_get xs entry.0 ≡ Some low
  pub high_stands : slice_get xs entry.1 ≡ Some high
  pub one_server : low.server ≡ high.server
  pub is : part_of claim stretch low high ≡ part
  pub whole : IsWhole claim xs stretch part

-- so it is if the server's group isn't left out
abbrev pub IsSaidWithout : ClaimData → List Exchange → (ℕ → Bool) → Stretch → Table
    → Option (Part × (ℕ × ℕ)) → Type 0
IsSaidWithout claim xs out stretch table found = MatchOption found
    (out (slice_index claim.groups table.server) ≡ true)
    (λ said. (out (slice_index claim.groups table.server) ≡ false)
    × IsAllSaid claim xs stretch said.1 said.0)

-- parts are what entries say, one after another
abbrev pub AreInStep : ClaimData → List Exchange → (ℕ → Bool) → Stretch → List (ℕ × ℕ)
    → List Part → Type 0
AreInStep claim xs out stretch entries parts = (k : ℕ) (entry : ℕ × ℕ) (part : Part)
    → slice_get entries k ≡ Some entry → slice_get parts k ≡ Some part
    → IsSaid claim xs out stretch entry part
