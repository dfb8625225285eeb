-- A refusal with no lines stays.
use Rattle.report.proofs.Common.{ℕ, List, Option, Result, arith, concat, Keeps, append-nil, Outcome, RunFault, GetsText, refused}
use Rattle.report.proofs.Closing.{left_nil}

-- nothing of it is written
pub writes_nothing : (fault : RunFault) (before after : Option (List ℕ)) (answer : Result Outcome RunFault) →
    GetsText (refused fault) before after answer → Keeps before after
writes_nothing fault before after answer gets = grind (arith, concat, left_nil, append-nil)
