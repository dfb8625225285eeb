use Rattle.std.proofs.Common.{◌≡◌, map, drop}
use Rattle.cover_certificate.specs.CoverCertificate.{case_data}
use Rattle.claim_file.specs.Claim.{data_of as claim_data}
use Rattle.cover_checker.specs.Verdict.{case_faults}
use Rattle.cover_checker.proofs.piece.first_bad_piece.Given as goal

abbrev pub invariant-loop-number : goal.invariant-loop-number
invariant-loop-number g l =
    case_faults (claim_data l.claim) (map g.X.ToExchange.shown l.exchanges) l.number
    (map case_data (drop l.number l.cases))
    ≡ case_faults (claim_data l.claim) (map g.X.ToExchange.shown l.exchanges) 0 (map case_data l.cases)
