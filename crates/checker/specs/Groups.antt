-- Groups of servers.
--
-- Servers that depend on one reference are one group: if one is false, all may be. A claim gives
-- each server the number of its group. Without groups each server is a group of its own.
use Rattle.std.specs.Prelude.{ℕ, ◌==◌, Bool, ◌&&◌, List, length, slice_index, count_by}
use Rattle.checker.specs.Common.{list_any, numbers_below}

-- one of the servers of this group is false
abbrev pub holds_false : List ℕ → (ℕ → Bool) → ℕ → Bool
holds_false groups is_false group =
    list_any (λ server. (slice_index groups server == group) && is_false server)
    (numbers_below (length groups))

-- how many groups hold a false server
abbrev pub false_group_count : List ℕ → (ℕ → Bool) → ℕ
false_group_count groups is_false =
    count_by (holds_false groups is_false) (numbers_below (length groups))
