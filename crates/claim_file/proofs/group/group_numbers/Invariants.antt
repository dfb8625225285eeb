use Rattle.claim_file.proofs.Common.{◌≡◌, ◌++◌, ◌-◌, map, range_with_len, servers_of, group_of}
use Rattle.claim_file.proofs.group.group_numbers.Given as goal

abbrev pub invariant-loop-server : goal.invariant-loop-server
invariant-loop-server l =
    map (group_of (map (λ list. list.items) l.groups)) (servers_of l.count)
    ≡ l.numbers.items ++ map (group_of (map (λ list. list.items) l.groups))
    (range_with_len l.server (l.count - l.server))
