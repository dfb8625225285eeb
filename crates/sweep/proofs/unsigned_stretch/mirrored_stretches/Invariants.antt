use Rattle.sweep.proofs.Common.{◌≡◌, map, take, mirrored_stretch}
use Rattle.sweep.proofs.unsigned_stretch.mirrored_stretches.Given as goal

abbrev pub invariant-loop-stretch : goal.invariant-loop-stretch
invariant-loop-stretch l = l.mirrored.items ≡ map mirrored_stretch (take l.stretch-index l.stretches)
