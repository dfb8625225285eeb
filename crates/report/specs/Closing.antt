-- How a run ends: what it has put by then, and what its sink has got in the end.
use Rattle.std.specs.Prelude.{◌≡◌, ◌⊎◌, ◌+◌, ℕ, List, [], ◌++◌, Option, Bool, false, Result, Err}
use Rattle.report.specs.Common.{concat, SinkState}
use Rattle.report.specs.declared.fault.Input.{Input}
use Rattle.report.specs.declared.fault.Outcome.{Outcome}
use Rattle.report.specs.declared.fault.RunFault.{RunFault}
use Rattle.report.specs.declared.fault.RunFault.TheVariants.{Device, Write, Memory}
use Rattle.report.specs.Output.{OutputState, HasPut, IsCut, IsReady}
use Rattle.report.specs.Reports.{Report, text_of, GetsText, CountsSink, is_device}

-- the whole of a report was put
abbrev pub IsPut : Report → Option (List ℕ) → OutputState → Type 0
IsPut report before now =
    (texts : List (List ℕ)) × (concat texts ≡ text_of report) × HasPut before now texts

-- What a run has put that comes to this answer, of the report that it's to give: all of it, but
-- nothing if memory was refused and some first lines if a device failed. If the sink failed it has
-- got a part of it.
abbrev pub HasRun : Report → Option (List ℕ) → OutputState → Result Outcome RunFault → Type 0
HasRun report before now (Err Memory) = HasPut before now []
HasRun report before now (Err (Device input)) =
    (first others : List (List ℕ)) × (report.lines ≡ first ++ others) × HasPut before now first
HasRun report before now (Err (Write sent)) = IsCut (text_of report) before now.sink.contents sent
HasRun report before now answer =
    (answer ≡ report.answer) × IsPut report before now

-- A run that came to this answer may be ended: its sink is closed if it has failed, and else may be
-- used further.
abbrev pub CanClose : OutputState → Result Outcome RunFault → Type 0
CanClose now (Err (Write sent)) = now.sink.is_open ≡ false
CanClose now answer = IsReady now

-- a fault of what an input says, after which its lines still go out: no device failed, and memory
-- wasn't refused
abbrev pub IsRefusal : RunFault → Type 0
IsRefusal (Device input) = ⊥
IsRefusal (Write sent) = ⊥
IsRefusal Memory = ⊥
IsRefusal _ = Unit {0}

-- The answer that a run came to stays. Only an outcome and a refusal, whose lines are still to go
-- out, may be followed by a failed write.
abbrev pub StaysOrWrites : Result Outcome RunFault → Result Outcome RunFault → Type 0
StaysOrWrites (Err Memory) answer = answer ≡ Err Memory
StaysOrWrites (Err (Device input)) answer = answer ≡ Err (Device input)
StaysOrWrites (Err (Write sent)) answer = answer ≡ Err (Write sent)
StaysOrWrites ran answer = (answer ≡ ran) ⊎ ((sent : ℕ) × (answer ≡ Err (Write sent)))

-- how often the sink has failed in a run that came to this answer
abbrev pub stops_of : Result Outcome RunFault → ℕ
stops_of (Err (Write sent)) = 1
stops_of answer = 0

-- What ending a run does: the sink gets the text of the report whose answer the run came to, and is
-- closed, and no input's device is asked.
pub record Closes (old : OutputState) (after : SinkState)
    (ran answer : Result Outcome RunFault) : Type 0 where
  pub text : (report : Report) (before : Option (List ℕ)) → HasRun report before old ran →
      GetsText report before after.contents answer
  pub stays : StaysOrWrites ran answer
  pub closed : after.is_open ≡ false
  pub sink : (before : ℕ) → old.sink.faults ≡ before + stops_of ran →
      CountsSink answer before after.faults
  pub device : (which : Input → Bool) → is_device which answer ≡ is_device which ran
