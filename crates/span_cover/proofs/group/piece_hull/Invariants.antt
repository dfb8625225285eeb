use Rattle.span_cover.proofs.Common.{◌≡◌, ◌≤◌, length, filter_map, numbers_below, group_interval}
use Rattle.span_cover.proofs.group.piece_hull.Given as goal

abbrev pub invariant-loop-group : goal.invariant-loop-group
invariant-loop-group l = record {
  so_far : l.intervals.items ≡ filter_map (group_interval l.groups l.parts) (numbers_below l.group);
  fits : length l.intervals.items ≤ l.group;
}
