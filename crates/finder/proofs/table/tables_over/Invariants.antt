use Rattle.finder.proofs.Common.{◌≡◌, ℕ, ℤ, ◌≤◌, length, All, slice_get, filter_map, range_with_len, data_of, IsPieceAt, best_over, stretch_over}
use Rattle.finder.proofs.table.tables_over.Given as goal

abbrev pub invariant-loop-server : goal.invariant-loop-server
invariant-loop-server g l = record {
  few : length l.tables.items ≤ l.server;
  long : All (λ table. length table.items ≡ length l.ends) l.tables.items;
  best : (k : ℕ) (p q : ℤ) → IsPieceAt l.first l.ends k p q
      → filter_map (λ table. slice_get table.items k) l.tables.items
      ≡ filter_map (best_over (g.S.SampleSource.samples l.samples) (data_of l.claim) (stretch_over p q))
      (range_with_len 0 l.server);
}
