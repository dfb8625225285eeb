use Rattle.std.proofs.Common.{arith, append_assoc}
use Rattle.line_writer.proofs.line.Line.put_address.Goals as goal

pub returns-clause-text : goal.returns-clause-text
returns-clause-text c = grind (arith, append_assoc)
