use Rattle.audit_text.proofs.Common.{map, data_of, conflict_data, conflict_line}
use Rattle.audit_text.proofs.Lines.{listed_more, listed_all}
use Rattle.audit_text.proofs.settlement.add_conflicts.Goals as goal

pub loop-conflict-preserved : goal.loop-conflict-preserved
loop-conflict-preserved g c =
    let xs = map g.X.ToExchange.shown c.args.exchanges.now in
    listed_more (λ conflict. conflict_line c.args.style (data_of c.args.claim.now) xs (conflict_data conflict))
    c.args.conflicts.now c.loop-conflict.conflict-index _ c.loop-conflict-test.true
    c.args.text.now.items c.loop-conflict.text.items c.add_conflict.new.text.items
    c.in_ok-add_conflict.ensures c.loop-conflict.invariant

pub returns : goal.returns
returns g c =
    let xs = map g.X.ToExchange.shown c.args.exchanges.now in
    listed_all (λ conflict. conflict_line c.args.style (data_of c.args.claim.now) xs (conflict_data conflict))
    c.args.conflicts.now c.loop-conflict.conflict-index c.loop-conflict-test.false
    c.args.text.now.items c.loop-conflict.text.items c.loop-conflict.invariant
