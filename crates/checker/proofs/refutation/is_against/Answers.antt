use Rattle.checker.proofs.Common.{sym, ◌∙◌, data_of as claim_data}
use Rattle.certificate.specs.Refutation.{data_of as refutation_data}
use Rattle.checker.proofs.RefutationTests.{against_from, against_to}
use Rattle.checker.proofs.refutation.is_against.Goals as goal

pub returns-clause-exact : goal.returns-clause-exact
returns-clause-exact c =
    let claim = claim_data c.args.claim.now in
    let refutation = refutation_data c.args.refutation.now in (
      λ against. against_from claim refutation (sym c.speaks_against.ensures ∙ against),
      λ against. c.speaks_against.ensures ∙ against_to claim refutation against,
    )
