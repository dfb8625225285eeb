-- How a run ends that knows its whole text before it writes any.
use Rattle.std.specs.Prelude.{◌≡◌, ◌⊎◌, ◌+◌, ℕ, List, [], Bool, false, Result, Ok, Err, MatchResult}
use Rattle.report.specs.Common.{concat, SinkState}
use Rattle.report.specs.declared.fault.Input.{Input}
use Rattle.report.specs.declared.fault.Input.TheVariants as inputs
use Rattle.report.specs.declared.fault.Outcome.{Outcome}
use Rattle.report.specs.declared.fault.RunFault.{RunFault}
use Rattle.report.specs.declared.fault.RunFault.TheVariants.{Device, Write, Memory}
use Rattle.report.specs.Closing.{CanClose, stops_of}
use Rattle.report.specs.Output.{HasPut, IsCut, OutputState}
use Rattle.report.specs.Reports.{Report, text_of, GetsText, CountsSink, is_device}

-- what is ready to go out: the whole text of a run, and its outcome
pub record Ready : Type 0 where
  pub text : List ℕ
  pub outcome : Outcome

-- What was made is what the report calls for: its whole text and outcome, or its refusal, which has
-- no text. That a device failed and that memory was refused say nothing about the report, and no
-- run finds before its text is written that this failed.
abbrev pub IsMadeFor : Report → Result Ready RunFault → Type 0
IsMadeFor report (Ok made) = (text_of report ≡ made.text) × (report.answer ≡ Ok made.outcome)
IsMadeFor report (Err Memory) = Unit {0}
IsMadeFor report (Err (Device input)) = Unit {0}
IsMadeFor report (Err (Write sent)) = ⊥
IsMadeFor report (Err fault) = (text_of report ≡ []) × (report.answer ≡ Err fault)

-- Nothing was written before, and no file of sums was read.
abbrev pub IsUnwritten : Result Ready RunFault → Type 0
IsUnwritten (Err (Write sent)) = ⊥
IsUnwritten (Err (Device inputs.Sums)) = ⊥
IsUnwritten made = Unit {0}

-- The answer is what was made of the run: its outcome, unless the sink failed, and its fault, even
-- if the sink failed.
abbrev pub IsAnswerFor : Result Ready RunFault → Result Outcome RunFault → Type 0
IsAnswerFor (Ok made) answer =
    (answer ≡ Ok made.outcome) ⊎ ((sent : ℕ) × (answer ≡ Err (Write sent)))
IsAnswerFor (Err fault) answer = answer ≡ Err fault

-- What publishing does: the sink gets the text of whatever report was made, and is closed, and no
-- input's device is asked.
pub record Publishes (before after : SinkState) (made : Result Ready RunFault)
    (answer : Result Outcome RunFault) : Type 0 where
  pub text : (report : Report) → IsMadeFor report made →
      GetsText report before.contents after.contents answer
  pub stays : IsAnswerFor made answer
  pub closed : after.is_open ≡ false
  pub sink : CountsSink answer before.faults after.faults
  pub device : (which : Input → Bool) → is_device which answer ≡ is_device which made

-- What a run has done to a fresh output over this sink that puts a whole text part by part: it has
-- put all of it and comes to its outcome, or the sink failed in the text, once, and is closed.
pub record PutsReady (ready : Ready) (before : SinkState) (now : OutputState)
    (ran : Result Outcome RunFault) : Type 0 where
  pub put : MatchResult ran
      (λ outcome. (outcome ≡ ready.outcome) × (texts : List (List ℕ))
      × (concat texts ≡ ready.text) × HasPut before.contents now texts)
      (λ fault. (sent : ℕ) × (fault ≡ Write sent)
      × IsCut ready.text before.contents now.sink.contents sent)
  pub can_close : CanClose now ran
  pub stops : now.sink.faults ≡ before.faults + stops_of ran
