use Rattle.claim_file.proofs.Common.{◌≡◌, ◌++◌, ◌-◌, range_with_len, servers_of}
use Rattle.claim_file.proofs.group.own_groups.Given as goal

abbrev pub invariant-loop-server : goal.invariant-loop-server
invariant-loop-server l = servers_of l.count ≡ l.numbers.items ++ range_with_len l.server (l.count - l.server)
