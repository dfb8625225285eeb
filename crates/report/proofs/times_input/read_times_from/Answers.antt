use Rattle.report.proofs.Common.{arith, or_fault}
use Rattle.report.specs.Fault.{times_run_fault_of}
use Rattle.reading_time.specs.Times.{times_data}
use Rattle.report.proofs.Reading.{input_is_read, input_refused, input_unread}
use Rattle.report.proofs.times_input.read_times_from.Goals as goal

pub returns-clause-known : goal.returns-clause-known
returns-clause-known g c =
    input_unread times_data _ _ _ _ _ c.in-Err.fault c.in-Err.ensures.fault c.in-Err.ensures.whole

pub returns-in-Ok-read_times-clause-known : goal.returns-in-Ok-read_times-clause-known
returns-in-Ok-read_times-clause-known g c =
    input_is_read times_data _ _ _ _ _ _ c.in-Ok-read_times.times c.in-Ok.ensures.whole
    (rw c.as_slice.ensures.value at c.in-Ok-read_times.ensures.exact)

-- the refusal of readings is the run's
pub returns-in-Ok-clause-known : goal.returns-in-Ok-clause-known
returns-in-Ok-clause-known g c =
    rw c.from.ensures (input_refused times_data _ _ _ _ _ _ _ c.in-Ok.ensures.whole
    (let exact = rw c.as_slice.ensures.value at c.in-Err-read_times.ensures.exact in
    grind (arith, or_fault, times_run_fault_of, exact)))
