use Rattle.std.proofs.Common.{◌≡◌, ◌<◌, ◌≤◌, All, List, length}
use Rattle.cover_finder.specs.Common.{Exchange, claim_data, holds}
use Rattle.cover_finder.specs.Table.{AreTablesOf}
use Rattle.cover_finder.proofs.Tables.{AreSaidUpto}
use Rattle.cover_finder.proofs.table.said_over.Given as goal

abbrev pub invariant-loop-table : goal.invariant-loop-table
invariant-loop-table l = record {
  few : length l.said.parts.items ≤ l.table-index;
  same : length l.said.entries.items ≡ length l.said.parts.items;
  listed : All (λ part. part.server < length l.claim.groups.items) l.said.parts.items;
  so_far : (xs : List Exchange) → (are : AreTablesOf (claim_data l.claim) xs l.tables)
      → AreSaidUpto (claim_data l.claim) xs (holds l.out) l.stretch l.tables are l.table-index l.said.entries.items
      l.said.parts.items;
}
