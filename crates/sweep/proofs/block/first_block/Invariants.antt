use Rattle.std.proofs.Common.{◌-◌, ℕ, ◌<◌, ◌≤◌, get_or}
use Rattle.sweep.proofs.block.first_block.Given as goal

abbrev pub invariant-loop-block : goal.invariant-loop-block
invariant-loop-block l = record {
  within : l.block ≤ l.end;
  before : (other : ℕ) → l.fn.first ≤ other → other < l.block → get_or l.limits other 0 ≤ l.fn.height;
}

abbrev pub decreases-loop-block : goal.decreases-loop-block
decreases-loop-block l = l.end - l.block
