use Rattle.pairing.proofs.Common.{◌≡◌, ◌≤◌, drop, map, take, IsJoined, get, most_exchanges, exchange_shown, same_key, outcomes_by}
use Rattle.pairing.proofs.join.join.Given as goal

abbrev pub invariant-loop-number : goal.invariant-loop-number
invariant-loop-number l = record {
  joined : IsJoined l.fn.counts (outcomes_by (get same_key l.index.places) (take l.number l.fn.exchanges))
      (map exchange_shown (take l.kept l.exchanges)) l.counts;
  rest : drop l.number l.exchanges ≡ drop l.number l.fn.exchanges;
  within : l.kept ≤ l.number;
  few : l.kept ≤ most_exchanges;
}
