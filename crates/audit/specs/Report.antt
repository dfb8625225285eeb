-- What a run writes and answers for the bytes of its inputs: the first refusal in the order claim,
-- second input, capture, or the report on what they say.
use Rattle.std.specs.Prelude.{ℕ, List, Option, Some, None, Result, Ok, Err, IfErr, IfOk, option_map}
use Rattle.audit.specs.Common.{SinkState, ClaimData, Collection, claim_read, Outcome, RunFault, Pieces, Memory, IsMadeFor, Publishes, Ready, Report, refused, RunState, Style}
use Rattle.audit.specs.CaptureInput.{capture_read}
use Rattle.audit.specs.Evidence.{EvidenceData, evidence_of}
use Rattle.audit.specs.Finding.{IsFindingOf}
use Rattle.audit.specs.Question.{AskedData, Finding, QuestionData, ShowsOf, asked_of, no_finding}
use Rattle.audit.specs.Second.{SecondData, SecondKind, no_second, nothing_said, second_read}

-- ---- what the inputs say

-- the second input, and the evidence of claim and capture
pub record InputsData : Type 0 where
  pub said : SecondData
  pub evidence : EvidenceData

abbrev pub inputs_data : SecondData → EvidenceData → InputsData
inputs_data said evidence = record { said = said; evidence = evidence }

-- what a capture gives that is held against a claim
abbrev pub with_capture :
    SecondData → ClaimData → Result Collection RunFault → Result InputsData RunFault
with_capture said claim (Ok collection) = Ok (inputs_data said (evidence_of claim collection))
with_capture said claim (Err fault) = Err fault

-- a refusal of the second input needs no capture
abbrev pub with_second : ClaimData → Option (Result SecondData RunFault) → Option (List ℕ)
    → Option (Result InputsData RunFault)
with_second claim None capture = None
with_second claim (Some (Err fault)) capture = Some (Err fault)
with_second claim (Some (Ok said)) None = None
with_second claim (Some (Ok said)) (Some capture) =
    Some (with_capture said claim (capture_read claim capture))

-- a refusal of the claim needs neither of the others
abbrev pub with_claim : SecondKind → Result ClaimData RunFault → Option (List ℕ)
    → Option (List ℕ) → Option (Result InputsData RunFault)
with_claim kind (Err fault) second capture = Some (Err fault)
with_claim kind (Ok claim) second capture = with_second claim (second_read kind second) capture

-- what the bytes of the inputs say, or the first refusal, as far as they are known
abbrev pub inputs_read : SecondKind → Option (List ℕ) → Option (List ℕ) → Option (List ℕ)
    → Option (Result InputsData RunFault)
inputs_read kind None second capture = None
inputs_read kind (Some claim) second capture =
    with_claim kind (claim_read claim) second capture

-- ---- the report

-- the report on what the inputs say
abbrev pub report_on : AskedData → Finding → Result InputsData RunFault → Report
report_on asked finding (Ok inputs) =
    asked.question.report asked.style finding inputs.said inputs.evidence
report_on asked finding (Err fault) = refused fault

-- the report on the bytes of the inputs, as far as they are known
abbrev pub report_of_bytes : AskedData → Finding →
    Option (List ℕ) → Option (List ℕ) → Option (List ℕ) → Option Report
report_of_bytes asked finding claim second capture =
    option_map (report_on asked finding) (inputs_read asked.second claim second capture)

-- the report of a run that begins so
abbrev pub run_report : AskedData → Finding → RunState → Option Report
run_report asked finding before =
    report_of_bytes asked finding before.claim.remaining before.second.remaining
    before.capture.remaining

-- ---- what is told

-- why nothing can be told of evidence
abbrev pub IsOfMaking : RunFault → Type 0
IsOfMaking Pieces = Unit {0}
IsOfMaking Memory = Unit {0}
IsOfMaking _ = ⊥

-- Why nothing is found of what the inputs say: that is the report, in any style.
pub record IsUnfound (question : QuestionData) (inputs : InputsData) (fault : RunFault)
    : Type 0 where
  pub finding : Finding
  pub found : IsFindingOf inputs.evidence finding
  pub of_making : IsOfMaking fault
  pub is_made : (style : Style)
      → IsMadeFor (question.report style finding inputs.said inputs.evidence) (Err fault)

-- A report is made and published, or isn't made for a reason of its making, and this holds of its
-- outcome.
pub record TellsOf (report : Report) (Shows : Outcome → Type 0) (before after : SinkState)
    (answer : Result Outcome RunFault) : Type 0 where
  pub made : Result Ready RunFault
  pub is_made : IsMadeFor report made
  pub of_making : IfErr made IsOfMaking
  pub shows : IfOk made (λ m. Shows m.outcome)
  pub publishes : Publishes before after made answer

-- A report on what the inputs say is told, and its outcome shows what the question says.
abbrev pub Tells : AskedData → Report → InputsData → SinkState → SinkState → Result Outcome RunFault
    → Type 0
Tells asked report inputs before after answer =
    TellsOf report (ShowsOf asked.question asked.second inputs.said inputs.evidence)
    before after answer

-- the same of a question of claim and capture alone, before whose text nothing is found
abbrev pub TellsAlone : QuestionData → Style → EvidenceData → SinkState → SinkState
    → Result Outcome RunFault → Type 0
TellsAlone question style e before after answer =
    Tells (asked_of question no_second style) (question.report style no_finding nothing_said e)
    (inputs_data nothing_said e) before after answer
