use Rattle.cover_certificate.proofs.Common.{◌≡◌, ◌≤◌, [], length, map, parse_map, next_items, max_pieces, case_data, cases_data, cases_from, max_cases, pieces_of}
use Rattle.cover_certificate.proofs.cases.read_cases.Given as goal

abbrev pub invariant-cases : goal.invariant-cases
invariant-cases l = record {
  read : parse_map (cases_from []) (next_items l.depth l.fn.reader)
      ≡ parse_map (cases_from (cases_data l.cases)) (next_items l.depth l.reader);
  few : length l.cases.items ≤ max_cases;
  pieces : pieces_of (map case_data l.cases.items) ≤ max_pieces;
}

abbrev pub decreases-cases : goal.decreases-cases
decreases-cases l = length l.reader
