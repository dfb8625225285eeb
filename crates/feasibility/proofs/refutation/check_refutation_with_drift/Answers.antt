use Rattle.feasibility.proofs.Common.{◌≡◌, map, IfOk-weaker, data_of as claim_data, do_agree}
use Rattle.certificate.specs.Refutation.{data_of as refutation_data}
use Rattle.feasibility.specs.DriftSettlement.{SettlesWithDrift}
use Rattle.feasibility.proofs.DriftTest.{agreement}
use Rattle.feasibility.proofs.refutation.check_refutation_with_drift.Goals as goal

pub returns-then-is_against-clause-settles : goal.returns-then-is_against-clause-settles
returns-then-is_against-clause-settles g c =
    let claim = claim_data c.args.claim.now in
    let xs = map g.X.ToExchange.shown c.args.exchanges.now in
    let refutation = refutation_data c.args.refutation.now in
    IfOk-weaker c.do_agree.result (λ agree. agree ≡ do_agree claim xs refutation) (SettlesWithDrift claim xs refutation)
    (λ agree is. c.refutations_are_settled.ensures claim xs refutation agree c.args.claim.now.lawful
    c.requires.exchanges (agreement claim xs refutation c.is_against.result c.is_against.ensures.tested
    c.is_against.ensures.exact c.if-is_against.true agree is))
    c.do_agree.ensures
