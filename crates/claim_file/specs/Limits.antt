-- What a claim says, as lists and numbers, and its limits.
--
-- A claim names a client and 1 to 32 servers, each by its IPv4 address, and says that the client's
-- clock stayed within a bound of UTC over a span, provided that at most a given number of groups of
-- servers are false. The number of a server is its place in the list. Servers that depend on one
-- reference are one group.
use Rattle.std.specs.Prelude.{◌≡◌, ◌≢◌, ℕ, ◌+◌, ◌*◌, ◌^◌, ◌<◌, ◌≤◌, ℤ, pos, ◌≤ℤ◌, ◌<ℤ◌, List, [], ◌∷◌, length, max, All, AllPairs, Contains}

-- a claim as lists and numbers: addresses of four bytes; the span, the bound and the allowance in
-- ticks of 2^-32 s
pub record ClaimData : Type 0 where
  pub client : List ℕ
  pub servers : List (List ℕ)
  pub groups : List ℕ
  pub false_max : ℕ
  pub first : ℤ
  pub last : ℤ
  pub bound : ℤ
  pub bound_ns : ℕ
  pub drift_ppb : ℕ
  pub reading : ℤ
  pub reading_ns : ℕ

-- the most servers that a claim may name
abbrev pub max_servers : ℕ
max_servers = 32

-- the greatest number of groups that may be false
abbrev pub max_false : ℕ
max_false = 31

-- the widest bound, a million seconds, in nanoseconds and in ticks
abbrev pub max_bound_ns : ℕ
max_bound_ns = 1000000000000000

abbrev pub max_bound : ℕ
max_bound = 1000000 * 2 ^ 32

-- the greatest drift, a half, in parts of 10^9
abbrev pub max_drift_ppb : ℕ
max_drift_ppb = 500000000

-- the widest allowance, a second, in nanoseconds and in ticks
abbrev pub max_reading_ns : ℕ
max_reading_ns = 1000000000

abbrev pub max_reading : ℕ
max_reading = 2 ^ 32

-- every limit that a calculation with a claim asks for
pub record IsLawful (c : ClaimData) : Type 0 where
  -- 1 to 32 servers, whose addresses differ, and the client is none of them
  pub some_server : 1 ≤ length c.servers
  pub few_servers : length c.servers ≤ max_servers
  pub addresses_differ : AllPairs (λ a b. a ≢ b) c.servers
  pub client_is_no_server : All (λ a. a ≢ c.client) c.servers
  -- each server has one group, whose number is below the count of servers
  pub group_for_each : length c.groups ≡ length c.servers
  pub groups_in_range : All (λ g. g < length c.servers) c.groups
  pub few_false : c.false_max ≤ max_false
  -- the span is of Unix ticks, and forward
  pub span_begins : pos 0 ≤ℤ c.first
  pub span_forward : c.first ≤ℤ c.last
  pub span_ends : c.last <ℤ pos (2 ^ 64)
  pub bound_not_negative : pos 0 ≤ℤ c.bound
  pub bound_in_range : c.bound ≤ℤ pos max_bound
  pub bound_ns_in_range : c.bound_ns ≤ max_bound_ns
  pub drift_in_range : c.drift_ppb ≤ max_drift_ppb
  pub reading_not_negative : pos 0 ≤ℤ c.reading
  pub reading_in_range : c.reading ≤ℤ pos max_reading
  pub reading_ns_in_range : c.reading_ns ≤ max_reading_ns

-- one more than the greatest number of a group: how many groups there are, if none is empty
abbrev pub group_count : List ℕ → ℕ
group_count [] = 0
group_count (g ∷ groups) = max (g + 1) (group_count groups)

-- none of the groups numbered from 0 on is empty: each holds a server
pub record IsWithoutGap (groups : List ℕ) : Type 0 where
  pub none_empty : (g : ℕ) → g < group_count groups → Contains groups g
