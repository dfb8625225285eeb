-- What a claim's text says, as a relation.
use Rattle.std.specs.Prelude.{◌≡◌, ◌≢◌, ℕ, ◌*◌, ◌^◌, ◌<◌, ◌≤◌, ℤ, pos, ◌≤ℤ◌, ◌↔◌, List, ◌∷◌, map, codes, length, All, AllPairs, option_map, Option, Some, slice_get}
use Rattle.audit.specs.Common.{AllZip, IsDotted, nanoseconds_per_second, IsFloor, IsCeiling, ticks_per_second, Data, number, unsigned, string, array, get, items_of, parsed, ClaimData, IsInGroup, IsTime}

-- an array of whole numbers
abbrev pub numbers_value : List ℕ → Data
numbers_value ns = array (items_of (map (λ n. number (unsigned n)) ns))

-- a member is a text that writes a time, which is this tick
pub record IsTimeAt (value : Data) (name : List ℕ) (tick : ℤ) : Type 0 where
  pub text : List ℕ
  pub unix_second : ℕ
  pub stands : get name value ≡ Some (string text)
  pub is_time : IsTime text unix_second
  pub in_ticks : tick ≡ pos (unix_second * ticks_per_second)

-- The text is JSON, and its members say this claim. Times and addresses are written as RFC 3339 and
-- the dotted form have them; the bound is rounded down to ticks, the allowance up.
pub record IsClaimText (text : List ℕ) (claim : ClaimData) : Type 0 where
  pub value : Data
  pub is_json : parsed text ≡ Some value
  pub client_text : List ℕ
  pub client_stands : get (codes "client") value ≡ Some (string client_text)
  pub client : IsDotted client_text claim.client
  pub server_texts : List (List ℕ)
  pub servers_stand : get (codes "servers") value
      ≡ Some (array (items_of (map string server_texts)))
  pub servers : AllZip IsDotted server_texts claim.servers
  pub false_max : get (codes "false_max") value ≡ Some (number (unsigned claim.false_max))
  pub first : IsTimeAt value (codes "from") claim.first
  pub last : IsTimeAt value (codes "to") claim.last
  pub bound_ns : get (codes "bound_ns") value ≡ Some (number (unsigned claim.bound_ns))
  pub bound : ℕ
  pub bound_in_ticks : claim.bound ≡ pos bound
  pub bound_is : IsFloor (claim.bound_ns * ticks_per_second) nanoseconds_per_second bound
  pub drift : get (codes "drift_ppb") value ≡ Some (number (unsigned claim.drift_ppb))
  pub reading_ns : get (codes "reading_ns") value ≡ Some (number (unsigned claim.reading_ns))
  pub reading : ℕ
  pub reading_in_ticks : claim.reading ≡ pos reading
  pub reading_is : IsCeiling (claim.reading_ns * ticks_per_second) nanoseconds_per_second reading
  -- groups may be left out; each server is in one
  pub listed : Option (List (List ℕ))
  pub groups_stand : get (codes "groups") value
      ≡ option_map (λ groups. array (items_of (map numbers_value groups))) listed
  pub each_in_a_group : length claim.groups ≡ length claim.servers
  pub groups : (server group : ℕ) → (slice_get claim.groups server ≡ Some group)
      ↔ IsInGroup (length claim.servers) listed server group

-- The claim keeps every limit: 1 to 32 servers, whose addresses differ and aren't the client's, in
-- groups with numbers below their count; a span that doesn't end before it begins; a bound of at
-- most a million seconds; and it grants at most 31 false groups, a drift of a half and an allowance
-- of a second.
pub record IsWithinLimits (claim : ClaimData) : Type 0 where
  pub servers : (1 ≤ length claim.servers) × (length claim.servers ≤ 32)
  pub addresses_differ : AllPairs (λ a b. a ≢ b) (claim.client ∷ claim.servers)
  pub groups_in_range : All (λ group. group < length claim.servers) claim.groups
  pub span_forward : claim.first ≤ℤ claim.last
  pub bound : claim.bound_ns ≤ 10 ^ 15
  pub grants : (claim.false_max ≤ 31) × (claim.drift_ppb ≤ 500000000) × (claim.reading_ns ≤ 10 ^ 9)
