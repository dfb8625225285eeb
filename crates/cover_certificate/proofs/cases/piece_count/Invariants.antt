use Rattle.cover_certificate.proofs.Common.{◌≡◌, map, take, case_data, pieces_of}
use Rattle.cover_certificate.proofs.cases.piece_count.Given as goal

abbrev pub invariant-loop-case : goal.invariant-loop-case
invariant-loop-case l = record { counted : l.count ≡ pieces_of (map case_data (take l.case-index l.cases)) }
