use Rattle.std.proofs.Common.{rules}
use Rattle.byte_stream.specs.Intake.{TakesAtMost-none}
use Rattle.summed_inputs.proofs.inputs.hold_inputs.Goals as goal

pub returns-in_err-read_held-clause-at_most : goal.returns-in_err-read_held-clause-at_most
returns-in_err-read_held-clause-at_most g c = search (rules, TakesAtMost-none)

pub returns-in_err-hold-clause-at_most : goal.returns-in_err-hold-clause-at_most
returns-in_err-hold-clause-at_most g c = search (rules, TakesAtMost-none)
