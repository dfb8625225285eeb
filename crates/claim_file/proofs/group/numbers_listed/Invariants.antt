use Rattle.claim_file.proofs.Common.{◌≡◌, ◌++◌, map, drop, concat}
use Rattle.claim_file.proofs.group.numbers_listed.Given as goal

abbrev pub invariant-loop-group : goal.invariant-loop-group
invariant-loop-group l =
    concat (map (λ list. list.items) l.groups)
    ≡ l.numbers.items ++ concat (map (λ list. list.items) (drop l.group-index l.groups))
