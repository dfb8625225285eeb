use Rattle.intersection.proofs.Common.{◌≡◌, ◌≤◌, ◌+◌, ◌++◌, length, take, flat_map, low_end, high_end}
use Rattle.intersection.proofs.ends.sorted_ends.Given as goal

abbrev pub invariant-loop-interval : goal.invariant-loop-interval
invariant-loop-interval g l = record {
  so_far : l.ends.items ≡ flat_map low_end (take l.interval-index l.list);
  fits : length l.ends.items ≤ l.interval-index;
}

abbrev pub invariant-loop-interval-2 : goal.invariant-loop-interval-2
invariant-loop-interval-2 g l = record {
  so_far : l.ends.items ≡ flat_map low_end l.list ++ flat_map high_end (take l.interval-index l.list);
  fits : length l.ends.items ≤ length l.list + l.interval-index;
}
