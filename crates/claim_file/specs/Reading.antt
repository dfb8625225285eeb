-- What the text of a claim says: a claim within its limits, or the first fault that it has.
use Rattle.std.specs.Prelude.{ℕ, ◌*◌, ◌^◌, pos, Bool, ◌&&◌, nat_le, List, ◌∷◌, length, Result, Ok}
use Rattle.json_text.specs.Text.{parsed}
use Rattle.era_unfold.specs.Nanoseconds.{ticks_down, ticks_up}
use Rattle.claim_file.specs.declared.fault.ClaimFault.{ClaimFault}
use Rattle.claim_file.specs.declared.fault.ClaimFault.TheVariants.{Json, Address, Time, Range, RepeatedServer, Groups}
use Rattle.claim_file.specs.declared.reading.Named.{Named}
use Rattle.claim_file.specs.Address.{address_of, addresses_of, are_different}
use Rattle.claim_file.specs.Claim.{ClaimData, max_servers, max_false, max_bound_ns, max_drift_ppb, max_reading_ns}
use Rattle.json_text.specs.Step.{given, asked, after}
use Rattle.claim_file.specs.Fields.{FieldsData, fields_of}
use Rattle.claim_file.specs.Group.{groups_of}
use Rattle.claim_file.specs.Time.{time_of}

-- the addresses and the Unix seconds that a claim's texts write
pub record NamedData : Type 0 where
  pub client : List ℕ
  pub servers : List (List ℕ)
  pub first : ℕ
  pub last : ℕ

-- what the texts say: addresses first, then times
abbrev pub named_of : FieldsData → Result NamedData ClaimFault
named_of f =
    given Address (address_of f.client) λ client.
    given Address (addresses_of f.servers) λ servers.
    given Time (time_of f.begin) λ first.
    given Time (time_of f.end) λ last.
    Ok (record { client = client; servers = servers; first = first; last = last })

-- the numbers are within their limits, and the span isn't backward
abbrev pub is_in_range : FieldsData → NamedData → Bool
is_in_range f named =
    nat_le 1 (length named.servers) && nat_le (length named.servers) max_servers
    && nat_le f.false_max max_false && nat_le named.first named.last
    && nat_le f.bound_ns max_bound_ns && nat_le f.drift_ppb max_drift_ppb
    && nat_le f.reading_ns max_reading_ns

-- a second, counted from 1970, in ticks of 2^-32 s
abbrev pub second_ticks : ℕ → ℕ
second_ticks second = second * 2 ^ 32

-- the claim that has these members, addresses, times and groups
abbrev pub claim_with : FieldsData → NamedData → List ℕ → ClaimData
claim_with f named groups = record {
  client = named.client;
  servers = named.servers;
  groups = groups;
  false_max = f.false_max;
  first = pos (second_ticks named.first);
  last = pos (second_ticks named.last);
  bound = pos (ticks_down f.bound_ns);
  bound_ns = f.bound_ns;
  drift_ppb = f.drift_ppb;
  reading = pos (ticks_up f.reading_ns);
  reading_ns = f.reading_ns;
}

-- that claim, if it is within its limits
abbrev pub within_limits : FieldsData → NamedData → Result ClaimData ClaimFault
within_limits f named =
    asked Range (is_in_range f named) (
    asked RepeatedServer (are_different (named.client ∷ named.servers)) (
    given Groups (groups_of (length named.servers) f.groups) λ groups.
    Ok (claim_with f named groups)))

-- what fields of the right kinds say
abbrev pub claim_from : FieldsData → Result ClaimData ClaimFault
claim_from f = after (named_of f) (within_limits f)

-- what the bytes of a claim say: JSON, then the kinds of its members, then their values
abbrev pub claim_of : List ℕ → Result ClaimData ClaimFault
claim_of bytes = given Json (parsed bytes) λ value. after (fields_of value) claim_from

-- what the parts that were read say
abbrev pub named_data : Named → NamedData
named_data named = record {
  client = named.client;
  servers = named.servers.items;
  first = named.first;
  last = named.last;
}
