use Rattle.pairing.proofs.Common.{◌≡◌, map, take, exchange_shown}
use Rattle.pairing.proofs.collected.Collected.new.Given as goal

abbrev pub invariant-loop-exchange : goal.invariant-loop-exchange
invariant-loop-exchange l =
    l.exchanges.items ≡ map exchange_shown (take l.exchange-index l.held.exchanges.items)
