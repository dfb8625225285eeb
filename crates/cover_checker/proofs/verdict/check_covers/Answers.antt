use Rattle.std.proofs.Common.{map}
use Rattle.claim_file.specs.Claim.{data_of as claim_data}
use Rattle.cover_certificate.specs.CoverCertificate.{data_of as certificate_data}
use Rattle.cover_checker.proofs.verdict.check_covers.Goals as goal

pub returns : goal.returns
returns g c =
    c.verdicts_are_exact.ensures (claim_data c.args.claim.now) (map g.X.ToExchange.shown c.args.exchanges.now)
    (certificate_data c.args.certificate.now) c.first_failure.result c.args.claim.now.lawful c.requires.exchanges
    c.first_failure.ensures
