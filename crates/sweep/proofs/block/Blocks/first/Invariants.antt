use Rattle.sweep.proofs.Common.{◌≤◌, ◌-◌, AreBlocksOf}
use Rattle.sweep.proofs.block.Blocks.first.Given as goal

abbrev pub invariant-loop-self : goal.invariant-loop-self
invariant-loop-self l = record { taken : l.self.taken ≤ l.count; are : AreBlocksOf l.queue l.self }

abbrev pub decreases-loop-self : goal.decreases-loop-self
decreases-loop-self l = l.count - l.self.taken
