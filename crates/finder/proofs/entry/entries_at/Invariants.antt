use Rattle.std.proofs.Common.{◌≡◌, ◌≤◌, length, take, slice_get}
use Rattle.std.specs.List.{filter_map}
use Rattle.finder.proofs.entry.entries_at.Given as goal

abbrev pub invariant-loop-table : goal.invariant-loop-table
invariant-loop-table l = record {
  so_far : l.entries.items ≡ filter_map (λ table. slice_get table.items l.number) (take l.table-index l.tables);
  fits : length l.entries.items ≤ l.table-index;
}
