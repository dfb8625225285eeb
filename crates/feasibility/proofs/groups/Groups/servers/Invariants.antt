use Rattle.feasibility.proofs.Common.{◌≡◌, ◌≤◌, length, filter, data_of as claim_data, is_of, holds, numbers_below}
use Rattle.feasibility.proofs.groups.Groups.servers.Given as goal

abbrev pub invariant-loop-server : goal.invariant-loop-server
invariant-loop-server l = record {
  so_far : l.servers.items ≡ filter (is_of (claim_data l.claim) (holds l.self)) (numbers_below l.server);
  fits : length l.servers.items ≤ l.server;
}
