use Rattle.feasibility.proofs.Common.{List, map, data_of as claim_data, AreGrounds, conflict_data, AreListedUpto, Exchange}
use Rattle.feasibility.specs.ConflictsView.{data_of}
use Rattle.feasibility.proofs.shown_conflicts.add_conflicts.Given as goal

abbrev pub invariant-loop-b : goal.invariant-loop-b
invariant-loop-b l =
    (xs : List Exchange) → AreGrounds (claim_data l.claim) xs (data_of l.conflicts) l.marks
    → AreListedUpto (claim_data l.claim) xs l.a 0 (map conflict_data l.initial.listed.items)
    → AreListedUpto (claim_data l.claim) xs l.a l.b (map conflict_data l.listed.items)
