-- How much is taken of an input that is read whole.
use Rattle.report.proofs.Common.{ℕ, Result, arith, FeedState, Input, RunFault, most_read}
use Rattle.byte_stream.specs.Intake.{TakesAtMost}

-- what is within the limit is so at every answer
pub takes_within : {X : Type 0} (which : Input) (limit : ℕ) (answer : Result X RunFault) (before after : FeedState) →
    TakesAtMost limit before after → TakesAtMost (most_read which limit answer) before after
takes_within which limit answer before after = grind arith
