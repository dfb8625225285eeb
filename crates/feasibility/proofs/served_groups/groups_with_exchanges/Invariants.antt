use Rattle.feasibility.proofs.Common.{map, drop, data_of as claim_data, holds}
use Rattle.feasibility.proofs.HeardGroups.{AreHeardTo}
use Rattle.feasibility.proofs.served_groups.groups_with_exchanges.Given as goal

abbrev pub invariant-loop-exchange : goal.invariant-loop-exchange
invariant-loop-exchange g l =
    let xs = map g.X.ToExchange.shown l.exchanges in
    AreHeardTo (claim_data l.claim) xs (drop l.exchange-index xs) (holds l.found)
