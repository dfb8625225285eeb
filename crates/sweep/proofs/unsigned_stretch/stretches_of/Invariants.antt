use Rattle.sweep.proofs.StretchList.{StretchesSoFar}
use Rattle.sweep.proofs.unsigned_stretch.stretches_of.Given as goal

abbrev pub invariant-loop-reading : goal.invariant-loop-reading
invariant-loop-reading l = StretchesSoFar l.fn.first l.fn.ends l.reading-index l.begin l.stretches.items
