use Rattle.std.proofs.Common.{◌≡◌, ◌+◌, List, length, map}
use Rattle.cover_finder.specs.Common.{Exchange, case_data, claim_data, max_pieces}
use Rattle.cover_finder.specs.Made.{AreCasesOf, pieces_in}
use Rattle.cover_finder.specs.Table.{AreTablesOf}
use Rattle.cover_finder.proofs.search.cases_of.Given as goal

abbrev pub invariant-loop-out : goal.invariant-loop-out
invariant-loop-out l = record {
  number : length l.cases.items ≡ l.out-index;
  count : pieces_in (map case_data l.cases.items) + l.left ≡ max_pieces;
  are : (xs : List Exchange) → AreTablesOf (claim_data l.claim) xs l.tables
      → AreCasesOf (claim_data l.claim) xs l.covers (map case_data l.cases.items);
}
