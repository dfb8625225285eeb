use Rattle.sum_file.proofs.Common.{◌≡◌, Some, map, agreed, data_of}
use Rattle.sum_file.proofs.Turns.{lines_yielded}
use Rattle.sum_file.proofs.reading.read_sums.Given as goal

abbrev pub invariant-loop-ended : goal.invariant-loop-ended
invariant-loop-ended l = agreed (lines_yielded l.yielded) ≡ Some (map data_of l.sums.items)
