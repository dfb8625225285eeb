use Rattle.feasibility.proofs.Common.{map, data_of as claim_data, conflict_data, AreListedUpto}
use Rattle.feasibility.proofs.shown_conflicts.first_contradictions.Given as goal

abbrev pub invariant-loop-a : goal.invariant-loop-a
invariant-loop-a g l =
    AreListedUpto (claim_data l.claim) (map g.X.ToExchange.shown l.exchanges) l.a 0 (map conflict_data l.listed.items)
