-- What each server says about the clock's error at one reading of the clock, a tick.
--
-- A tick is a piece of the span that begins where it ends. Each server with a sample gives the
-- interval of its best samples for that piece.
use Rattle.std.specs.Prelude.{ℕ, ℤ, List, length, filter_map, Option}
use Rattle.finder.specs.Common.{option_map, ClaimData, Interval, Sample, best_interval, Part, numbers_below}

-- an interval, as what a server says
abbrev pub part_with : ℕ → Interval → Part
part_with server interval = record { server = server; interval = interval }

-- what a server says at a tick by its best samples, if it has one
abbrev pub best_part : List Sample → ℕ → ℤ → ℕ → Option Part
best_part samples ppb tick server =
    option_map (part_with server) (best_interval samples server tick tick ppb)

-- what each server says that has a sample, in the order of the servers
abbrev pub best_parts : List Sample → ClaimData → ℤ → List Part
best_parts samples claim tick =
    filter_map (best_part samples claim.drift_ppb tick) (numbers_below (length claim.servers))
