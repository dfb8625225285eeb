use Rattle.std.proofs.Common.{arith}
use Rattle.line_writer.proofs.Threes.{padded_three, padded_four}
use Rattle.line_writer.proofs.line.Line.put_three_digits.Goals as goal

pub returns-clause-text : goal.returns-clause-text
returns-clause-text c = grind (arith, padded_four, padded_three)
