-- A server's samples, laid out so that its interval over any piece is found by a search.
use Rattle.std.specs.Prelude.{◌≡◌, ℕ, ◌<◌, ◌≤◌, ◌==◌, Bool, ℤ, List, length, map, filter, Option, All}
use Rattle.sweep.specs.Common.{filter_map, list_any, range_with_len, option_map, Interval, Side, Low, High, Sample, best_interval, Part}
use Rattle.sweep.specs.Extreme.{AreExtremesOf, mirrored_extreme}
use Rattle.sweep.specs.PrefixMaximum.{AreMaximaOf}
use Rattle.sweep.specs.Top.{IsAtLeast}
use Rattle.sweep.specs.declared.extreme.Extreme.{Extreme}
use Rattle.sweep.specs.declared.unsigned_stretch.UnsignedStretch.{UnsignedStretch}
use Rattle.sweep.specs.declared.table.BestTable.{BestTable}
use Rattle.sweep.specs.declared.table.Maxima.{Maxima}

-- what a server's best samples say over a piece, if it has a sample
abbrev pub said_by : ℕ → Interval → Part
said_by server interval = record { server = server; interval = interval }

abbrev pub best_part : List Sample → ℤ → ℤ → ℕ → ℕ → Option Part
best_part samples p q ppb server =
    option_map (said_by server) (best_interval samples server p q ppb)

-- the same of each server below this number, in their order
abbrev pub best_parts : List Sample → ℕ → ℤ → ℤ → ℕ → List Part
best_parts samples count p q ppb =
    filter_map (best_part samples p q ppb) (range_with_len 0 count)

-- is a sample of this server
abbrev pub has_sample : List Sample → ℕ → Bool
has_sample samples server = list_any (λ sample. sample.server == server) samples

-- the maxima of the extremes, and of the same with time running backwards
pub record AreMaximaBothWays (ppb : ℕ) (extremes : List Extreme) (maxima : Maxima) : Type 0 where
  pub early : AreMaximaOf ppb extremes maxima.early.items
  pub late : AreMaximaOf ppb (map mirrored_extreme extremes) maxima.late.items

-- the highest level that an extreme reaches over the stretch
pub record IsLevelOver (ppb : ℕ) (extremes : List Extreme) (stretch : UnsignedStretch) (level : ℕ)
    : Type 0 where
  pub index : ℕ
  pub reached : IsAtLeast ppb extremes stretch index level
  pub highest : (other lower : ℕ) → IsAtLeast ppb extremes stretch other lower → lower ≤ level

-- the maxima of the ends of a server's samples, of which there are some
pub record AreMaximaOfEnds (side : Side) (samples : List Sample) (server ppb : ℕ) (maxima : Maxima)
    : Type 0 where
  pub extremes : List Extreme
  pub are : AreExtremesOf side samples server extremes
  pub some : 0 < length extremes
  pub maxima_are : AreMaximaBothWays ppb extremes maxima

-- a server's table
pub record IsTableOf (samples : List Sample) (ppb : ℕ) (table : BestTable) : Type 0 where
  pub lows : AreMaximaOfEnds Low samples table.server ppb table.lows
  pub highs : AreMaximaOfEnds High samples table.server ppb table.highs

-- the tables of the servers below this number that have a sample, in their order
pub record AreTablesOf (samples : List Sample) (count ppb : ℕ) (tables : List BestTable)
    : Type 0 where
  pub each : All (IsTableOf samples ppb) tables
  pub servers : map (λ table. table.server) tables
      ≡ filter (has_sample samples) (range_with_len 0 count)
