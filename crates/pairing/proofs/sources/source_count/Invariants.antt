use Rattle.pairing.proofs.Common.{◌≡◌, ◌≤◌, map, exchange_shown, source_count}
use Rattle.pairing.proofs.sources.source_count.Given as goal

abbrev pub invariant-loop-server : goal.invariant-loop-server
invariant-loop-server l = record {
  so_far : l.count ≡ source_count (map exchange_shown l.exchanges) l.server;
  fits : l.count ≤ l.server;
}
