use Rattle.checker.proofs.Common.{◌≡◌, ◌≤◌, count_by, holds_false, numbers_below, is_liar}
use Rattle.checker.proofs.refutation.false_group_count.Given as goal

abbrev pub invariant-loop-group : goal.invariant-loop-group
invariant-loop-group l = record {
  so_far : l.count ≡ count_by (holds_false l.groups (is_liar l.liars)) (numbers_below l.group);
  fits : l.count ≤ l.group;
}
