use Rattle.audit_text.proofs.Common.{◌≡◌, ◌++◌, map, take, flat_map, data_of, conflict_data, conflict_line}
use Rattle.audit_text.proofs.settlement.add_conflicts.Given as goal

abbrev pub invariant-loop-conflict : goal.invariant-loop-conflict
invariant-loop-conflict g l =
    let xs = map g.X.ToExchange.shown l.exchanges in
    l.text.items ≡ l.initial.text.items ++ flat_map
    (λ conflict. conflict_line l.style (data_of l.claim) xs (conflict_data conflict))
    (take l.conflict-index l.conflicts)
