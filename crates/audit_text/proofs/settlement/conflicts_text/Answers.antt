use Rattle.audit_text.proofs.Common.{append_assoc, refl, map, data_of, conflict_data, conflict_line, conflicts_text}
use Rattle.std.proofs.lemmas.List.Folds.{flat_map-map}
use Rattle.audit_text.proofs.settlement.conflicts_text.Goals as goal

pub returns : goal.returns
unfolding conflicts_text
returns g c =
    let xs = map g.X.ToExchange.shown c.args.exchanges.now in
    rw (flat_map-map (conflict_line c.args.style (data_of c.args.claim.now) xs) conflict_data c.args.conflicts.now)
    (rw (c.in_ok-add_line.ensures, c.in_ok-add_conflicts.ensures, c.new-text.ensures.items) (simp append_assoc refl))
