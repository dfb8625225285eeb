use Rattle.std.proofs.Common.{◌≡◌, [], length, take, drop}
use Rattle.cover_checker.specs.Case.{groups_why}
use Rattle.cover_checker.proofs.case.groups_why.Given as goal

abbrev pub invariant-loop-k : goal.invariant-loop-k
invariant-loop-k l =
    groups_why (length l.claim.servers.items) (take l.k l.groups) (drop l.k l.groups)
    ≡ groups_why (length l.claim.servers.items) [] l.groups
