use Rattle.line_writer.proofs.Common.{arith, drop_all}
use Rattle.line_writer.proofs.line.Line.clear.Goals as goal

pub returns : goal.returns
returns c = drop_all 516 c.self.inside.scratch (omega arith)
