use Rattle.claim_file.proofs.Common.{◌≡◌, ◌==◌, ◌-◌, list_all, range_with_len, servers_of, times_listed}
use Rattle.claim_file.proofs.group.each_stands_once.Given as goal

abbrev pub invariant-loop-server : goal.invariant-loop-server
invariant-loop-server l =
    list_all (λ s. times_listed s l.numbers == 1) (servers_of l.count)
    ≡ list_all (λ s. times_listed s l.numbers == 1) (range_with_len l.server (l.count - l.server))
