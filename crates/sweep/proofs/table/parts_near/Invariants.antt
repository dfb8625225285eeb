use Rattle.sweep.proofs.Common.{◌≡◌, ◌≤◌, List, length, take, All, filter_map, Sample, IsTableOf, best_part}
use Rattle.sweep.proofs.table.parts_near.Given as goal

abbrev pub invariant-loop-index : goal.invariant-loop-index
invariant-loop-index l = record {
  few : length l.parts.items ≤ l.index;
  so_far : (samples : List Sample) → All (IsTableOf samples l.drift_ppb) l.tables → l.parts.items
      ≡ filter_map (λ table. best_part samples l.begin l.end l.drift_ppb table.server) (take l.index l.tables);
}
