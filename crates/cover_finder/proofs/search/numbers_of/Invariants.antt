use Rattle.std.proofs.Common.{◌≡◌, ◌≤◌, length}
use Rattle.std.specs.Prelude.{filter}
use Rattle.cover_finder.specs.Common.{holds, numbers_below}
use Rattle.cover_finder.proofs.search.numbers_of.Given as goal

abbrev pub invariant-loop-group : goal.invariant-loop-group
invariant-loop-group l = record {
  so_far : l.numbers.items ≡ filter (holds l.out) (numbers_below l.group);
  fits : length l.numbers.items ≤ l.group;
}
