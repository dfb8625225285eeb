-- Groups of servers.
--
-- A claim may list groups as arrays of server numbers. The number of each server has to stand there
-- exactly once, no other number may, and no group may be empty. Without groups each server is a
-- group of its own.
use Rattle.std.specs.Prelude.{◌≡◌, ℕ, ◌<◌, ◌==◌, ◌&&◌, Bool, not, Contains, IsSomeAnd, slice_get, List, length, map, nat_lt, unwrap_or, count_by, Option, Some, None, if◌then◌else◌}
use Rattle.std.specs.List.{concat, list_all, list_any, position_from, range_with_len}

-- the numbers of n servers
abbrev pub servers_of : ℕ → List ℕ
servers_of n = range_with_len 0 n

-- how often a number stands in a list
abbrev pub times_listed : ℕ → List ℕ → ℕ
times_listed server numbers = count_by (λ s. s == server) numbers

-- the groups hold each of n servers exactly once and nothing else, and each holds one
abbrev pub is_grouping : ℕ → List (List ℕ) → Bool
is_grouping n groups =
    list_all (λ group. not (length group == 0)) groups
    && list_all (λ s. nat_lt s n) (concat groups)
    && list_all (λ s. times_listed s (concat groups) == 1) (servers_of n)

-- the number of the group that holds a server
abbrev pub group_of : List (List ℕ) → ℕ → ℕ
group_of groups server =
    unwrap_or (position_from (λ group. list_any (λ s. s == server) group) 0 groups) 0

-- for each of n servers the number of its group
abbrev pub groups_of : ℕ → Option (List (List ℕ)) → Option (List ℕ)
groups_of n None = Some (servers_of n)
groups_of n (Some groups) =
    if is_grouping n groups then Some (map (group_of groups) (servers_of n)) else None

-- A server is in a group: in the group with this number, which lists it, or, if no groups are
-- listed, alone in the group of its own number.
abbrev pub IsInGroup : ℕ → Option (List (List ℕ)) → ℕ → ℕ → Type 0
IsInGroup n None server group = (server < n) × (group ≡ server)
IsInGroup n (Some groups) server group =
    IsSomeAnd (slice_get groups group) (λ servers. Contains servers server)
