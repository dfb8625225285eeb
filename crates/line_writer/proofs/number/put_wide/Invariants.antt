use Rattle.line_writer.proofs.Common.{◌≡◌, ◌+◌, ◌++◌, length, decimal}
use Rattle.line_writer.proofs.number.put_wide.Given as goal

abbrev pub invariant-loop-left : goal.invariant-loop-left
invariant-loop-left l = record {
  text : decimal l.left ++ l.line ≡ decimal l.n ++ l.initial.line;
  grown : length (decimal l.left) + length l.line ≡ length (decimal l.n) + length l.initial.line;
}

abbrev pub decreases-loop-left : goal.decreases-loop-left
decreases-loop-left l = l.left
