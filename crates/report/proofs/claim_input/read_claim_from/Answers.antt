use Rattle.report.proofs.Common.{arith, claim_run_fault_of, or_fault}
use Rattle.claim_file.specs.Claim.{data_of}
use Rattle.report.proofs.Reading.{input_is_read, input_refused, input_unread}
use Rattle.report.proofs.claim_input.read_claim_from.Goals as goal

pub returns-clause-known : goal.returns-clause-known
returns-clause-known g c = input_unread data_of _ _ _ _ _ c.in-Err.fault c.in-Err.ensures.fault c.in-Err.ensures.whole

pub returns-in-Ok-read_claim-clause-known : goal.returns-in-Ok-read_claim-clause-known
returns-in-Ok-read_claim-clause-known g c =
    input_is_read data_of _ _ _ _ _ _ c.in-Ok-read_claim.claim c.in-Ok.ensures.whole
    (rw c.as_slice.ensures.value at c.in-Ok-read_claim.ensures.exact)

-- a claim's refusal is the run's
pub returns-in-Ok-clause-known : goal.returns-in-Ok-clause-known
returns-in-Ok-clause-known g c =
    rw c.from.ensures (input_refused data_of _ _ _ _ _ _ _ c.in-Ok.ensures.whole
    (let exact = rw c.as_slice.ensures.value at c.in-Err-read_claim.ensures.exact in
    grind (arith, or_fault, claim_run_fault_of, exact)))
