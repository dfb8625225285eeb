use Rattle.checker.proofs.Common.{sym, subst, data_of as claim_data, IsVerdictOn}
use Rattle.certificate.specs.Certificate.{data_of as certificate_data}
use Rattle.checker.proofs.verdict.check.Goals as goal

pub returns : goal.returns
returns c =
    let claim = claim_data c.args.claim.now in
    let certificate = certificate_data c.args.certificate.now in
    subst (IsVerdictOn claim c.args.samples.now certificate) (sym c.first_fault.ensures)
    (c.verdicts_are_traceable.ensures claim c.args.samples.now certificate c.args.claim.now.lawful
    (record { lawful = c.requires.samples; listed = c.requires.listed }))
