use Rattle.report.proofs.Common.{arith, length}
use Rattle.report.proofs.OutputSteps.{put_flushed, put_stopped}
use Rattle.report.proofs.output.Output.flush.Goals as goal

pub returns-in-Ok-clause-puts_nothing : goal.returns-in-Ok-clause-puts_nothing
returns-in-Ok-clause-puts_nothing g c = grind (arith, length, put_flushed)

pub returns-in-Err-clause-puts_nothing : goal.returns-in-Err-clause-puts_nothing
returns-in-Err-clause-puts_nothing g c =
    let short = rw c.as_slice.ensures.value at c.in-Err.ensures.cut in
    let went = rw c.as_slice.ensures.value at c.in-Err.ensures.err in
    record {
      texts = λ before texts put. put_stopped before _ _ texts c.in-Err.gone put short went;
      fault = tt;
      count = tt;
      is_open = c.in-Err.ensures.stays_open;
      faults = c.in-Err.ensures.counts_fault;
    }
