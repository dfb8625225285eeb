use Rattle.certificate.proofs.Common.{◌≡◌, ◌++◌, drop, length, option_map, items_view, servers_of}
use Rattle.certificate.proofs.refutation_reading.read_servers.Given as goal

abbrev pub invariant-loop-item : goal.invariant-loop-item
invariant-loop-item l = record {
  found : servers_of (items_view l.items)
      ≡ option_map (λ others. l.servers.items ++ others) (servers_of (items_view (drop l.item-index l.items)));
  counted : length l.servers.items ≡ l.item-index;
}
