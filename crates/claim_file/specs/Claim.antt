-- What a value of the program says, which stands apart from its limits: a claim keeps these.
use Rattle.std.specs.Prelude.{ℕ, pos}
use Rattle.era_unfold.specs.Nanoseconds.{ticks_down}
use Rattle.claim_file.specs.declared.claim.Claim.{Claim}
pub use Rattle.claim_file.specs.Limits.{ClaimData, IsLawful, IsWithoutGap, group_count}
pub use Rattle.claim_file.specs.Limits.{max_servers, max_false, max_bound_ns, max_bound}
pub use Rattle.claim_file.specs.Limits.{max_drift_ppb, max_reading_ns, max_reading}

-- what a value of the program says
abbrev pub data_of : Claim → ClaimData
data_of claim = record {
  client = claim.client;
  servers = claim.servers.items;
  groups = claim.groups.items;
  false_max = claim.false_max;
  first = claim.first;
  last = claim.last;
  bound = claim.bound;
  bound_ns = claim.bound_ns;
  drift_ppb = claim.drift_ppb;
  reading = claim.reading;
  reading_ns = claim.reading_ns;
}

-- the same claim with a bound of m nanoseconds
abbrev pub with_bound : ClaimData → ℕ → ClaimData
with_bound claim m = record {
  client = claim.client;
  servers = claim.servers;
  groups = claim.groups;
  false_max = claim.false_max;
  first = claim.first;
  last = claim.last;
  bound = pos (ticks_down m);
  bound_ns = m;
  drift_ppb = claim.drift_ppb;
  reading = claim.reading;
  reading_ns = claim.reading_ns;
}
