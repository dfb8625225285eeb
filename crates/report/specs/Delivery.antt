-- How a whole text gets to a sink.
use Rattle.std.specs.Prelude.{◌≡◌, ◌≤◌, ℕ, List, length, take, false, Result, Ok, Err, IfErr, is_err}
use Rattle.report.specs.Common.{Appends, CountsFault, SinkState}

-- what a sink gets of a text: all of it, or a number of first bytes if it fails
abbrev pub delivered : List ℕ → Result (Unit {0}) ℕ → List ℕ
delivered text (Ok done) = text
delivered text (Err sent) = take sent text

-- The sink has got the whole text and was finished, or it failed, once, and has got a number of the
-- first bytes: all of them if it failed as it was finished. It's closed then.
pub record Delivers (text : List ℕ) (before after : SinkState)
    (result : Result (Unit {0}) ℕ) : Type 0 where
  pub went : Appends before.contents after.contents (delivered text result)
  pub at_most : IfErr result (λ sent. sent ≤ length text)
  pub counted : CountsFault (is_err result) before.faults after.faults
  pub closed : after.is_open ≡ false

-- The text was delivered, as far as the sink took it.
abbrev pub IsDelivered : List ℕ → SinkState → SinkState → Type 0
IsDelivered text before after = (result : Result (Unit {0}) ℕ) × Delivers text before after result
