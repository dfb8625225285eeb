-- What every engine promises about its answer, its sink and its inputs.
use Rattle.std.specs.Prelude.{◌≡◌, ◌<◌, ◌⊎◌, ℕ, List, [], ◌++◌, length, take, Option, IfSome, Bool, true, false, Result, Ok, Err, IsOk}
use Rattle.report.specs.Common.{concat, Appends, Keeps, CountsFault}
use Rattle.report.specs.declared.fault.Input.{Input}
use Rattle.report.specs.declared.fault.Input.TheVariants as inputs
use Rattle.report.specs.declared.fault.Outcome.{Outcome}
use Rattle.report.specs.declared.fault.RunFault.{RunFault}
use Rattle.report.specs.declared.fault.RunFault.TheVariants.{Device, Write, Memory}
use Rattle.report.specs.Run.{RunState}

-- What an engine is to write and to answer: lines that may go out while its inputs are read, then a
-- text that goes out only after all of them.
pub record Report : Type 0 where
  pub lines : List (List ℕ)
  pub closing : List ℕ
  pub answer : Result Outcome RunFault

-- the whole text of a report
abbrev pub text_of : Report → List ℕ
text_of report = concat report.lines ++ report.closing

-- the report that is a whole text, with an outcome
abbrev pub whole_text : List ℕ → Outcome → Report
whole_text text outcome = record { lines = []; closing = text; answer = Ok outcome }

-- the report if an input is refused before any line: no text
abbrev pub refused : RunFault → Report
refused fault = record { lines = []; closing = []; answer = Err fault }

-- The sink has got the first lines of the report, whole, and no more.
abbrev pub GetsLines : Report → Option (List ℕ) → Option (List ℕ) → Type 0
GetsLines report before after =
    (first others : List (List ℕ)) × (report.lines ≡ first ++ others)
    × Appends before after (concat first)

-- The sink may fail after this many bytes of a report: while its text goes out, or, if it has an
-- outcome, as the whole of it is finished. A refusal stays, whatever `finish` gives.
abbrev pub MayStop : Report → ℕ → Type 0
MayStop report sent =
    (sent < length (text_of report))
    ⊎ ((sent ≡ length (text_of report)) × IsOk report.answer)

-- What the sink has got at each answer: nothing if memory was refused, some first lines if a device
-- failed, and at a failed write exactly as many bytes of the text as it says. Any other answer is
-- the report's, and comes with the whole text.
abbrev pub GetsText : Report → Option (List ℕ) → Option (List ℕ) → Result Outcome RunFault → Type 0
GetsText report before after (Err Memory) = Keeps before after
GetsText report before after (Err (Device input)) = GetsLines report before after
GetsText report before after (Err (Write sent)) =
    MayStop report sent × Appends before after (take sent (text_of report))
GetsText report before after answer =
    (answer ≡ report.answer) × Appends before after (text_of report)

-- How the sink's faults are counted: one more if the answer is `Write`, and none if it's an
-- outcome. At any other fault the sink may have failed as it was finished, which the answer doesn't
-- report.
abbrev pub CountsSink : Result Outcome RunFault → ℕ → ℕ → Type 0
CountsSink (Ok outcome) before after = CountsFault false before after
CountsSink (Err (Write sent)) before after = CountsFault true before after
CountsSink (Err fault) before after = (failed : Bool) × CountsFault failed before after

-- which input it is
abbrev pub is_claim : Input → Bool
is_claim inputs.Claim = true
is_claim _ = false

abbrev pub is_second : Input → Bool
is_second inputs.Certificate = true
is_second inputs.Refutation = true
is_second inputs.Times = true
is_second _ = false

abbrev pub is_capture : Input → Bool
is_capture inputs.Capture = true
is_capture _ = false

abbrev pub is_sums : Input → Bool
is_sums inputs.Sums = true
is_sums _ = false

-- whether the answer is that the device of such an input failed
abbrev pub is_device : {A : Type 0} → (Input → Bool) → Result A RunFault → Bool
is_device which (Err (Device input)) = which input
is_device which answer = false

-- What an engine promises of its answer and of its devices, for the report that its inputs' bytes
-- call for, if they are known. No engine reads a file of sums, so none says that its device failed.
-- The sink is closed in the end: after the last byte it was finished, unless a push failed.
pub record Reports (report : Option Report) (before after : RunState)
    (answer : Result Outcome RunFault) : Type 0 where
  pub text : IfSome report (λ r. GetsText r before.sink.contents after.sink.contents answer)
  pub closed : after.sink.is_open ≡ false
  pub sink : CountsSink answer before.sink.faults after.sink.faults
  pub claim : CountsFault (is_device is_claim answer) before.claim.faults after.claim.faults
  pub second : CountsFault (is_device is_second answer) before.second.faults after.second.faults
  pub capture : CountsFault (is_device is_capture answer) before.capture.faults after.capture.faults
  pub sums : is_device is_sums answer ≡ false
