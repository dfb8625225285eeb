use Rattle.line_writer.proofs.Common.{◌≡◌, ◌+◌, ◌*◌, ◌++◌, ◌≤◌, length, drop, encode_lower}
use Rattle.line_writer.proofs.line.Line.put_hexadecimal.Given as goal

abbrev pub invariant-loop-left : goal.invariant-loop-left
invariant-loop-left l = record {
  within : l.left ≤ length l.bytes;
  text : l.self ≡ encode_lower (drop l.left l.bytes) ++ l.initial.self;
  grown : length l.self + 2 * l.left ≡ length l.initial.self + 2 * length l.bytes;
}

abbrev pub decreases-loop-left : goal.decreases-loop-left
decreases-loop-left l = l.left
