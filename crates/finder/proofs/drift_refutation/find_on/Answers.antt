use Rattle.finder.proofs.Common.{true≢false, inl, inr, map, sym, ◌∙◌, data_of as claim_data, holds}
use Rattle.certificate.specs.Refutation.{data_of as refutation_data}
use Rattle.finder.proofs.HeldError.{held_if_bounded, if_none, rounded}
use Rattle.finder.proofs.drift_refutation.find_on.Goals as goal

pub returns-in_err-refutation-clause-held : goal.returns-in_err-refutation-clause-held
returns-in_err-refutation-clause-held g c =
    let claim = claim_data c.args.claim.now in
    let xs = map g.X.ToExchange.shown c.args.exchanges.now in
    if_none c.from_residual.result _ (inl (held_if_bounded claim c.args.claim.now.lawful xs c.requires.exchanges
    c.args.side c.args.place.reading (holds c.args.place.cover) _ _ c.leeways_at-leeways.ensures
    c.false_groups-false_groups.ensures c.in_err-refutation.ensures))

pub returns-else-check_refutation_by_conflicts-clause-held :
    goal.returns-else-check_refutation_by_conflicts-clause-held
returns-else-check_refutation_by_conflicts-clause-held g c =
    let claim = claim_data c.args.claim.now in
    let xs = map g.X.ToExchange.shown c.args.exchanges.now in
    inr (rounded claim c.args.claim.now.lawful xs c.requires.exchanges c.args.side c.args.place.reading
    (holds c.args.place.cover) _ _ c.leeways_at-leeways.ensures
    c.false_groups-false_groups.ensures (refutation_data c.in_ok-refutation.refutation) c.in_ok-refutation.ensures
    (λ refuted. true≢false (sym (c.check_refutation_by_conflicts.ensures.exact.1 refuted)
    ∙ c.if-check_refutation_by_conflicts.false)))
