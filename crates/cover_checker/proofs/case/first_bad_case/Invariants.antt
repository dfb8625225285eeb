use Rattle.std.proofs.Common.{◌≡◌, [], map, take, drop}
use Rattle.claim_file.specs.Claim.{data_of as claim_data}
use Rattle.cover_certificate.specs.CoverCertificate.{case_data}
use Rattle.cover_checker.specs.Case.{cases_why}
use Rattle.cover_checker.proofs.case.first_bad_case.Given as goal

abbrev pub invariant-loop-number : goal.invariant-loop-number
invariant-loop-number l =
    cases_why (claim_data l.claim) (map case_data (take l.number l.cases)) (map case_data (drop l.number l.cases))
    ≡ cases_why (claim_data l.claim) [] (map case_data l.cases)
