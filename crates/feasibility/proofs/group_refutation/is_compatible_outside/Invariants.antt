use Rattle.feasibility.proofs.Common.{map, data_of as claim_data, holds}
use Rattle.feasibility.proofs.GroupRefutation.{IsHeldTo}
use Rattle.feasibility.proofs.group_refutation.is_compatible_outside.Given as goal

abbrev pub invariant-loop-exchange : goal.invariant-loop-exchange
invariant-loop-exchange g l =
    IsHeldTo (claim_data l.claim) l.mark (holds l.groups) (map g.X.ToExchange.shown l.exchanges) l.exchange-index
