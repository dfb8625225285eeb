use Rattle.claim_file.proofs.Common.{◌≡◌, ◌==◌, not, map, length, drop, list_all}
use Rattle.claim_file.proofs.group.none_is_empty.Given as goal

abbrev pub invariant-loop-group : goal.invariant-loop-group
invariant-loop-group l =
    list_all (λ group. not (length group == 0)) (map (λ list. list.items) l.groups)
    ≡ list_all (λ group. not (length group == 0)) (map (λ list. list.items) (drop l.group-index l.groups))
