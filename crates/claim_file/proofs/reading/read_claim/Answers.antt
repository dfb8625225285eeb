use Rattle.claim_file.proofs.Common.{data_of, fields_data}
use Rattle.claim_file.proofs.FieldSteps.{stops_shown, answers_fault, answers_memory}
use Rattle.claim_file.proofs.Lawful.{numbered_read}
use Rattle.claim_file.proofs.reading.read_claim.Goals as goal

pub returns-clause-numbered : goal.returns-clause-numbered
returns-clause-numbered c =
    numbered_read c.claim_from.result data_of (fields_data c.in_ok-fields.fields) c.claim_from.ensures.exact

pub returns-in_err-parse-clause-exact : goal.returns-in_err-parse-clause-exact
returns-in_err-parse-clause-exact c = answers_memory _ _ _ c.from_residual.ensures

pub returns-in_err-value-clause-exact : goal.returns-in_err-value-clause-exact
returns-in_err-value-clause-exact c =
    answers_fault _ _ c.from_residual-in_err-value.ensures
    (stops_shown _ _ _ _ c.in_ok-parse.ensures.exact c.in_err-value.ensures.value)
