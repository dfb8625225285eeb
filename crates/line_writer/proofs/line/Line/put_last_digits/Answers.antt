use Rattle.std.proofs.Common.{arith}
use Rattle.line_writer.proofs.Threes.{four_at, padded_four}
use Rattle.line_writer.proofs.line.Line.put_last_digits.Goals as goal

pub returns-clause-text : goal.returns-clause-text
returns-clause-text c = grind (arith, four_at, padded_four)
