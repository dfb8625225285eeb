use Rattle.feasibility.proofs.Common.{◌≡◌, length, map, data_of as claim_data, AreOfGroupsInOrder}
use Rattle.feasibility.proofs.sorted_marks.marks_by_group.Given as goal

abbrev pub invariant-loop-group : goal.invariant-loop-group
invariant-loop-group g l = record {
  count : length l.marks.items ≡ l.group;
  each : AreOfGroupsInOrder (claim_data l.claim) (map g.X.ToExchange.shown l.exchanges) l.marks.items;
}
