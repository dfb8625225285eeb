use Rattle.std.proofs.Common.{◌≡◌, ◌+◌, length, map, sum_by, take}
use Rattle.cover_certificate.specs.CoverCertificate.{case_data}
use Rattle.cover_finder.specs.Common.{max_pieces}
use Rattle.cover_finder.proofs.search.is_few.Given as goal

abbrev pub invariant-loop-case : goal.invariant-loop-case
invariant-loop-case l =
    (l.left + sum_by (λ case. length case.pieces) (map case_data (take l.case-index l.case-items))) ≡ max_pieces
