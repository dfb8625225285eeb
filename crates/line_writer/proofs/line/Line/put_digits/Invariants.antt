use Rattle.line_writer.proofs.Common.{◌≡◌, ◌+◌, ◌++◌, length, decimal}
use Rattle.line_writer.proofs.line.Line.put_digits.Given as goal

abbrev pub invariant-loop-left : goal.invariant-loop-left
invariant-loop-left l = record {
  text : decimal l.left ++ l.self ≡ decimal l.n ++ l.initial.self;
  grown : length (decimal l.left) + length l.self ≡ length (decimal l.n) + length l.initial.self;
}

abbrev pub decreases-loop-left : goal.decreases-loop-left
decreases-loop-left l = l.left
