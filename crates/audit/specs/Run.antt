-- What a run needs and what it promises.
use Rattle.std.specs.Prelude.{◌≡◌, ◌⊎◌, ℕ, Bool, false, Result, Ok, Err, IfErr, IfOk, IfSome, MatchResult}
use Rattle.audit.specs.Common.{run_state, no_feed, CountsFault, TakesAtMost, FeedState, IsReadable, IsWritable, SinkState, most_taken, max_claim, status_of, Conclusion, most_read, Input, Claim, Outcome, RunFault, Memory, CountsSink, GetsText, is_capture, is_claim, is_device, is_second, RunState, HasClaim, HasLawfulHeader, IsBeforeCapture, IsBeforeSecond, Runs, IsConcluded}
use Rattle.audit.specs.Question.{AreInputsOf, AskedData, Finding, QuestionData, for_a_program, plainly}
use Rattle.audit.specs.Second.{HasSecond, SecondKind, most_second, no_second}
use Rattle.audit.specs.Report.{InputsData, report_on, run_report}
use Rattle.audit.specs.Finding.{IsFindingOf, ShowsFinding}

-- A run may begin: each input may be pulled from, and its sink may be written to.
pub record MayRun (before : RunState) : Type 0 where
  pub claim : IsReadable before.claim
  pub second : IsReadable before.second
  pub capture : IsReadable before.capture
  pub sink : IsWritable before.sink

-- What is known of the inputs of a run once they are read, or one is refused.
pub record HasRead {T F A : Type 0} (kind : SecondKind) (before after : RunState)
    (second second' : T) (capture capture' : F) (read : Result A RunFault) : Type 0 where
  pub claim_faults : CountsFault (is_device is_claim read) before.claim.faults after.claim.faults
  pub second_faults : CountsFault (is_device is_second read)
      before.second.faults after.second.faults
  pub capture_faults : CountsFault (is_device is_capture read)
      before.capture.faults after.capture.faults
  pub second_untouched : IfErr read (λ fault. IsBeforeSecond fault → second' ≡ second)
  pub capture_untouched : IfErr read (λ fault. IsBeforeCapture fault → capture' ≡ capture)
  pub claim_at_most : TakesAtMost (most_read Claim max_claim read) before.claim after.claim
  pub second_at_most : TakesAtMost (most_second kind read) before.second after.second
  pub capture_at_most : TakesAtMost most_taken before.capture after.capture
  pub claim_memory : read ≡ Err Memory →
      ((second' ≡ second) × (capture' ≡ capture)) ⊎ HasClaim before.claim.remaining
  pub second_memory : read ≡ Err Memory →
      (capture' ≡ capture) ⊎ HasSecond kind before.second.remaining
  pub capture_memory : read ≡ Err Memory →
      (capture' ≡ capture) ⊎ HasLawfulHeader before.capture.remaining

-- What a run promises that a question is asked of: the text and the answer are those that the
-- bytes of its inputs call for. Of `settle` and `envelope` they are those of a finding, which shows
-- what it says.
pub record RunsFor {T F : Type 0} (asked : AskedData) (before after : RunState)
    (second second' : T) (capture capture' : F) (answer : Result Outcome RunFault) : Type 0 where
  pub finding : Finding
  pub found : ShowsFinding finding before.claim before.capture
  pub runs : Runs (run_report asked finding before) (most_second asked.second answer)
      (HasSecond asked.second) before after second second' capture capture' answer

-- What the inputs say is told on the output too: the same finding, of the same evidence, as the
-- draft has it. Where their bytes are known both texts are those that the bytes call for; of a
-- device's, which nobody knows, they are of one claim and of exchanges that were collected once.
pub record IsToldToo (asked : AskedData) (finding : Finding) (before after : RunState)
    (out out' : SinkState) (drafted answer : Result Outcome RunFault) : Type 0 where
  pub inputs : InputsData
  pub are_inputs : AreInputsOf asked.second inputs.said inputs.evidence
      before.claim before.second before.capture
  pub found : IsFindingOf inputs.evidence finding
  pub draft : GetsText (report_on (for_a_program asked) finding (Ok inputs))
      before.sink.contents after.sink.contents drafted
  pub text : GetsText (report_on asked finding (Ok inputs)) out.contents out'.contents answer
  pub of_bytes : IfSome (run_report asked finding before) (λ report.
      GetsText report out.contents out'.contents answer)
  pub closed : out'.is_open ≡ false
  pub sink : CountsSink answer out.faults out'.faults
  pub unfailed : (which : Input → Bool) → is_device which answer ≡ false

-- What a run promises that tells one finding twice: the draft, which is its sink, gets the text for
-- a program as in any run. If that is given up, it is the answer, and the output is as it was; if
-- it is whole, the output gets the text that is asked for.
pub record RunsTwice {T F : Type 0} (asked : AskedData) (before after : RunState)
    (second second' : T) (capture capture' : F) (out out' : SinkState)
    (answer : Result Outcome RunFault) : Type 0 where
  pub finding : Finding
  pub found : ShowsFinding finding before.claim before.capture
  pub drafted : Result Outcome RunFault
  pub runs : Runs (run_report (for_a_program asked) finding before)
      (most_second asked.second drafted) (HasSecond asked.second)
      before after second second' capture capture' drafted
  pub then_told : MatchResult drafted
      (λ outcome. IsToldToo asked finding before after out out' drafted answer)
      (λ fault. (answer ≡ Err fault) × (out' ≡ out))
  pub shows : IfOk answer (asked.question.Shows before.claim before.second before.capture)

-- what a run promises of a question without a second input, whose answer is for a program
abbrev pub RunsAlone : {F : Type 0} → QuestionData → FeedState → FeedState → SinkState →
    FeedState → FeedState → SinkState → F → F → Result Outcome RunFault → Type 0
RunsAlone question claim capture out claim' capture' out' feed feed' answer =
    RunsFor {T = Unit {0}} (plainly question no_second) (run_state claim no_feed capture out)
    (run_state claim' no_feed capture' out') (tt {0}) (tt {0}) feed feed' answer

-- What a caller of a whole command sees: all that a run promises, and its answer, reported by a
-- line and a conclusion.
abbrev pub AnswersFor : {T F : Type 0} → AskedData → RunState → RunState → T → T → F → F →
    SinkState → SinkState → Conclusion → Type 0
AnswersFor asked before after second second' capture capture' err err' conclusion =
    IsConcluded (RunsFor asked before after second second' capture capture') err err' conclusion

-- what the exit status of a run shows, by the outcome that it reports
abbrev pub ShowsAt : ℕ → QuestionData → FeedState → FeedState → FeedState → Type 0
ShowsAt status question claim second capture =
    (outcome : Outcome) → status ≡ status_of (Ok outcome)
    → question.Shows claim second capture outcome
