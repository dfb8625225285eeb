-- What each server says over a stretch by its best samples, those that make its interval there
-- narrowest.
use Rattle.std.specs.Prelude.{ℕ, List, length, filter_map, Option}
use Rattle.checker.specs.Common.{option_map, ClaimData, Interval, Sample, best_interval, numbers_below, Part, Stretch}

-- an interval, as what a server says
abbrev pub said_by : ℕ → Interval → Part
said_by server interval = record { server = server; interval = interval }

-- what a server says, if it has a sample
abbrev pub best_part : List Sample → Stretch → ℕ → ℕ → Option Part
best_part samples stretch ppb server =
    option_map (said_by server) (best_interval samples server stretch.begin stretch.end ppb)

-- what each server says that has a sample, in the order of the servers
abbrev pub best_parts : ClaimData → List Sample → Stretch → List Part
best_parts claim samples stretch =
    filter_map (best_part samples stretch claim.drift_ppb)
    (numbers_below (length claim.servers))
