use Rattle.std.proofs.Common.{arith}
use Rattle.program.proofs.run.ask_paths.Goals as goal

pub returns-in-Some : goal.returns-in-Some
returns-in-Some g c = grind arith

pub returns-in-Err : goal.returns-in-Err
returns-in-Err g c = grind arith
