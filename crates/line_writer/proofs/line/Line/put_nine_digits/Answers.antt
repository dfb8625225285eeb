use Rattle.line_writer.proofs.Common.{arith}
use Rattle.line_writer.proofs.Threes.{joined, padded_more, padded_three}
use Rattle.line_writer.proofs.line.Line.put_nine_digits.Goals as goal

pub returns-clause-text : goal.returns-clause-text
returns-clause-text c = grind (arith, joined, padded_more, padded_three)
