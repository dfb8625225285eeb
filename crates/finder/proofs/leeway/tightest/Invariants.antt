use Rattle.finder.proofs.Common.{◌<◌, holds}
use Rattle.finder.proofs.GroupLeeway.{IsTightestTo}
use Rattle.finder.proofs.leeway.tightest.Given as goal

abbrev pub invariant-loop-group : goal.invariant-loop-group
invariant-loop-group l = record {
  below : l.tightest < 32;
  so_far : IsTightestTo l.leeways (holds l.left_out) l.group l.tightest l.least;
}
