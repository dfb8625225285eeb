use Rattle.sweep.proofs.Common.{◌≡◌, ◌≤◌, length, map, All, filter, range_with_len, IsTableOf, has_sample}
use Rattle.sweep.proofs.table.tables_of.Given as goal

abbrev pub invariant-loop-server : goal.invariant-loop-server
invariant-loop-server g l = record {
  few : length l.tables.items ≤ l.server;
  each : All (IsTableOf (g.S.SampleSource.samples l.samples) l.drift_ppb) l.tables.items;
  servers : map (λ table. table.server) l.tables.items
      ≡ filter (has_sample (g.S.SampleSource.samples l.samples)) (range_with_len 0 l.server);
}
