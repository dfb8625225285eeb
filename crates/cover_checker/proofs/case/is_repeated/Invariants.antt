use Rattle.std.proofs.Common.{◌≡◌, map, drop}
use Rattle.std.specs.List.{list_any}
use Rattle.cover_certificate.specs.CoverCertificate.{case_data}
use Rattle.cover_checker.specs.Case.{are_alike}
use Rattle.cover_checker.proofs.case.is_repeated.Given as goal

abbrev pub invariant-loop-other : goal.invariant-loop-other
invariant-loop-other l =
    list_any (are_alike (case_data l.case)) (map case_data (drop l.other-index l.before))
    ≡ list_any (are_alike (case_data l.case)) (map case_data l.before)
