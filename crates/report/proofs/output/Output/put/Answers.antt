use Rattle.report.proofs.OutputSteps.{puts_one, puts_none}
use Rattle.report.proofs.output.Output.put.Goals as goal

pub returns-then-len-text-clause-puts : goal.returns-then-len-text-clause-puts
returns-then-len-text-clause-puts g c =
    puts_one _ _ _ c.args.text.now c.gather.ensures.gathers (puts_none _ c.requires.ready)

pub returns-clause-puts : goal.returns-clause-puts
returns-clause-puts g c =
    puts_one _ _ _ c.args.text.now c.gather-2.ensures.gathers c.in_ok-flush.ensures.puts_nothing
