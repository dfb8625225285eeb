-- What a question is: the report that is made of a second input and evidence, and what its outcome
-- shows of the bytes of the inputs. Each question stands in a module of its own.
use Rattle.std.specs.Prelude.{◌≡◌, Bool, List, Option, None, Result, Ok, Err, IfSome}
use Rattle.audit.specs.Common.{FeedState, AnswerData, LeastCarried, FindFault, Style, Plain, claim_read, Report, Outcome, Yes, No}
use Rattle.finder.specs.declared.fault.FindFault.TheVariants.{Memory}
use Rattle.audit.specs.CaptureInput.{capture_read}
use Rattle.audit.specs.Evidence.{EvidenceData}
use Rattle.audit.specs.declared.question.by_covers.HullOver.{HullOver}
use Rattle.audit.specs.Second.{SecondData, SecondKind, second_read}

-- What was found that has no definition of its own: what settles a claim, or why it isn't known;
-- the least bound that a certificate carries, whether any course of events fits, and the hulls by
-- covers over readings, if these were looked for. `specs/Finding` says what it shows.
pub record Finding : Type 0 where
  pub settled : Result AnswerData FindFault
  pub least : Option (Option LeastCarried)
  pub fits : Option Bool
  pub over : Option (List HullOver)

-- nothing was found, for want of memory or because nothing was looked for
abbrev pub no_finding : Finding
no_finding = record { settled = Err Memory; least = None; fits = None; over = None }

pub record QuestionData : Type 1 where
  -- the report on what the second input says and on evidence, in a style: a person is told of a
  -- certificate or a refutation, and a program gets it. `settle`, `envelope` and `check` report
  -- what was found.
  pub report : Style → Finding → SecondData → EvidenceData → Report
  -- what the outcome of a run shows whose claim, second input and capture begin so
  pub Shows : FeedState → FeedState → FeedState → Outcome → Type 0

-- a question, its second input, and for whom the answer is written
pub record AskedData : Type 1 where
  pub question : QuestionData
  pub second : SecondKind
  pub style : Style

abbrev pub asked_of : QuestionData → SecondKind → Style → AskedData
asked_of question second style = record { question = question; second = second; style = style }

-- the same question, asked for a program
abbrev pub for_a_program : AskedData → AskedData
for_a_program asked = asked_of asked.question asked.second Plain

-- a question whose answer is for a program
abbrev pub plainly : QuestionData → SecondKind → AskedData
plainly question second = asked_of question second Plain

-- ---- what an outcome shows

-- one thing at a yes, another at a no
abbrev pub ByOutcome : Type 0 → Type 0 → Outcome → Type 0
ByOutcome at_yes at_no Yes = at_yes
ByOutcome at_yes at_no No = at_no

-- The bytes of inputs, as far as they are known, give this second input and evidence.
pub record AreInputsOf (kind : SecondKind) (said : SecondData) (e : EvidenceData)
    (claim second capture : FeedState) : Type 0 where
  pub claim_is : IfSome claim.remaining (λ bytes. claim_read bytes ≡ Ok e.claim)
  pub second_is : IfSome (second_read kind second.remaining) (λ read. read ≡ Ok said)
  pub capture_is : IfSome capture.remaining (λ bytes. capture_read e.claim bytes ≡ Ok e.collection)

-- An outcome that was come to from them shows what the question says, of any such inputs.
abbrev pub ShowsOf : QuestionData → SecondKind → SecondData → EvidenceData → Outcome → Type 0
ShowsOf question kind said e outcome = (claim second capture : FeedState)
    → AreInputsOf kind said e claim second capture → question.Shows claim second capture outcome
