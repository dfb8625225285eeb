use Rattle.error_marks.proofs.Rate.{faster}
use Rattle.error_marks.proofs.laws.greater_rate_keeps_what_is_compatible.Goals as goal

pub returns : goal.returns
returns c = faster
