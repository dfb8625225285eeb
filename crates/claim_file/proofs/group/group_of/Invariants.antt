use Rattle.claim_file.proofs.Common.{◌≡◌, ◌==◌, map, drop, unwrap_or, list_any, position_from, group_of}
use Rattle.claim_file.proofs.group.group_of.Given as goal

abbrev pub invariant-loop-number : goal.invariant-loop-number
invariant-loop-number l =
    group_of (map (λ list. list.items) l.groups) l.server
    ≡ unwrap_or (position_from (λ group. list_any (λ s. s == l.server) group) l.number
    (map (λ list. list.items) (drop l.number l.groups))) 0
