use Rattle.feasibility.proofs.Common.{◌≡◌, length, map, All, data_of as claim_data, IsNumbered, AreNumberedInOrder}
use Rattle.feasibility.proofs.numbered_marks.numbered_by_group.Given as goal

abbrev pub invariant-loop-group : goal.invariant-loop-group
invariant-loop-group g l = record {
  count : length l.marks.items ≡ l.group;
  numbered : All IsNumbered l.marks.items;
  each : AreNumberedInOrder (claim_data l.claim) (map g.X.ToExchange.shown l.exchanges) l.marks.items;
}
