use Rattle.feasibility.proofs.Common.{map, data_of as claim_data, holds}
use Rattle.certificate.specs.Refutation.{data_of as refutation_data}
use Rattle.feasibility.specs.ConflictsView.{data_of}
use Rattle.feasibility.proofs.GroupRefutation.{settled}
use Rattle.feasibility.proofs.group_refutation.check_refutation_by_conflicts.Goals as goal

pub returns-then-is_against : goal.returns-then-is_against
returns-then-is_against g c =
    let claim = claim_data c.args.claim.now in
    let xs = map g.X.ToExchange.shown c.args.exchanges.now in
    let refutation = refutation_data c.args.refutation.now in
    c.refutations_are_settled.ensures claim xs refutation c.is_left.result c.args.claim.now.lawful c.requires.exchanges
    (settled claim xs c.args.claim.now.lawful c.requires.exchanges (data_of c.args.conflicts.now) c.requires.groups
    c.requires.table (holds c.args.false_groups) refutation c.requires.liars c.mark_of.result c.mark_of.ensures.exact
    (c.is_against.ensures.exact.0 c.if-is_against.true) c.is_left.result c.is_left.ensures)
