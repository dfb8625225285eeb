use Rattle.std.proofs.Common.{arith}
use Rattle.line_writer.proofs.Last.{last_written}
use Rattle.line_writer.proofs.line.Line.put_last.Goals as goal

pub returns-clause-text : goal.returns-clause-text
returns-clause-text c = grind (arith, last_written)
