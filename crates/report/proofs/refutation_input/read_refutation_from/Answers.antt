use Rattle.report.proofs.Common.{arith, refutation_run_fault_of, or_fault}
use Rattle.certificate.specs.Refutation.{data_of}
use Rattle.report.proofs.Reading.{input_is_read, input_refused, input_unread}
use Rattle.report.proofs.refutation_input.read_refutation_from.Goals as goal

pub returns-clause-known : goal.returns-clause-known
returns-clause-known g c = input_unread data_of _ _ _ _ _ c.in-Err.fault c.in-Err.ensures.fault c.in-Err.ensures.whole

pub returns-in-Ok-read_refutation-clause-known : goal.returns-in-Ok-read_refutation-clause-known
returns-in-Ok-read_refutation-clause-known g c =
    input_is_read data_of _ _ _ _ _ _ c.in-Ok-read_refutation.refutation c.in-Ok.ensures.whole
    (rw c.as_slice.ensures.value at c.in-Ok-read_refutation.ensures.exact)

-- a refutation's refusal is the run's
pub returns-in-Ok-clause-known : goal.returns-in-Ok-clause-known
returns-in-Ok-clause-known g c =
    rw c.from.ensures (input_refused data_of _ _ _ _ _ _ _ c.in-Ok.ensures.whole
    (let exact = rw c.as_slice.ensures.value at c.in-Err-read_refutation.ensures.exact in
    grind (arith, or_fault, refutation_run_fault_of, exact)))
