use Rattle.certificate.proofs.Common.{◌≡◌, ◌<◌, ◌^◌, ℕ, get_or, map, take, view, number_value}
use Rattle.certificate.proofs.refutation_writing.servers_of.Given as goal

abbrev pub invariant-loop-server : goal.invariant-loop-server
invariant-loop-server l = record {
  values : map view l.values.items ≡ map number_value (take l.server-index l.servers);
  named : (k : ℕ) (d : ℕ) → k < l.server-index → get_or l.servers k d < 2 ^ 8;
}
