use Rattle.checker.proofs.Course.{late_at_request, early_at_reply}
use Rattle.checker.proofs.laws.stamps_err_on_one_side.Goals as goal

pub returns-clause-late_at_request : goal.returns-clause-late_at_request
returns-clause-late_at_request c = late_at_request

pub returns-clause-early_at_reply : goal.returns-clause-early_at_reply
returns-clause-early_at_reply c = early_at_reply
