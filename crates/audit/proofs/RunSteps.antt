-- A run, once its inputs are read.
use Rattle.std.proofs.Common.{rules}
use Rattle.audit.proofs.Common.{IfOk-weaker, IsFindingOf, ◌≡◌, ◌∙◌, ◌⊎◌, ℕ, List, Option, Some, None, Result, Ok, Err, refl, inl, inr, false, IfSome, IfErr, IfOk, FeedState, SinkState, Outcome, RunFault, claim_read, IsAnswerFor, IsMadeFor, IsUnwritten, Publishes, Ready, Report, GetsText, is_sums, is_device, refused, IsFromOutside, HasClaim, HasLawfulHeader, IsUnwrittenAt, Runs, capture_read, AreInputsOf, AskedData, Finding, EvidenceData, for_a_program, no_finding, HasSecond, SecondData, SecondKind, most_second, second_read, no_second, certificate_second, refutation_second, times_second, InputsData, IsOfMaking, Tells, inputs_data, inputs_read, report_on, run_report, Bool, option_map, IfSome_then, TakesAtMost, Input, most_read, RunState, BytesLaws, arith, ints, nat_tests}
use Rattle.report.specs.declared.fault.Input.TheVariants as inputs
use Rattle.report.specs.declared.fault.RunFault.TheVariants as faults
use Rattle.report.proofs.LinelessRefusal.{writes_nothing}
use Rattle.audit.specs.Report.{report_of_bytes}
use Rattle.audit.specs.Run.{HasRead, RunsFor, RunsTwice}
use Rattle.audit.proofs.Capture.{header_was_read}
use Rattle.audit.proofs.Showing.{finding_shown, nothing_shown, refused_twice}

-- ---- what is known of the inputs at the answer

-- what is made of inputs that were read, or of the fault why they weren't
abbrev Follows : {A : Type 0} → Result A RunFault → Result Ready RunFault → Type 0
Follows (Ok value) made = IfErr made IsOfMaking
Follows (Err fault) made = (made ≡ Err fault) × IsUnwritten (Err fault)

second_taken : {A B : Type 0} (kind : SecondKind) (read : Result A RunFault) (answer : Result B RunFault) →
    ((which : Input) (limit : ℕ) → most_read which limit read ≡ most_read which limit answer) →
    (before after : FeedState) → TakesAtMost (most_second kind read) before after →
    TakesAtMost (most_second kind answer) before after
second_taken no_second read answer same before after h = h
second_taken certificate_second read answer same before after h = grind (arith, ints, nat_tests)
second_taken refutation_second read answer same before after h = grind (arith, ints, nat_tests)
second_taken times_second read answer same before after h = grind (arith, ints, nat_tests)

module _ {T F A : Type 0} {kind : SecondKind} {before after : RunState} {second second' : T} {capture capture' : F}
  where
    -- what comes once all inputs were read comes of lawful ones
    known_at : (read : Result A RunFault) (made : Result Ready RunFault) (answer : Result Outcome RunFault) →
        Follows read made → IsAnswerFor made answer →
        IfOk read (λ _. HasClaim before.claim.remaining × HasSecond kind before.second.remaining
        × HasLawfulHeader before.capture.remaining) →
        HasRead kind before after second second' capture capture' read →
        HasRead kind before after second second' capture capture' answer
    known_at (Err fault) made answer (is, nothing) stays had h =
        let same : answer ≡ Err fault = rw is at stays in rw same (search (rules, second_taken))
    known_at (Ok value) (Ok m) answer follows (inl same) had h = rw same (search (rules, second_taken))
    known_at (Ok value) (Ok m) answer follows (inr (sent, is)) had h = rw is (search (rules, second_taken))
    known_at (Ok value) (Err faults.Pieces) answer follows is had h = rw is (search (rules, second_taken))
    known_at (Ok value) (Err faults.Memory) answer follows is had h = rw is (search (rules, second_taken))
    known_at (Ok value) (Err fault) answer follows is had h = absurd follows

-- ---- nothing is written if a run is given up

-- no file of sums was read
unsummed : (made : Result Ready RunFault) → IsUnwritten made → is_device is_sums made ≡ false
unsummed (Err (faults.Device inputs.Sums)) h = absurd h
unsummed _ h = refl

refusal_for : (fault : RunFault) → IsUnwritten (Err fault) → IsMadeFor (refused fault) (Err fault)
refusal_for (faults.Write sent) h = absurd h
refusal_for faults.Memory h = tt
refusal_for (faults.Device input) h = tt
refusal_for fault h = (refl, refl)

unwritten : (before after : SinkState) (made : Result Ready RunFault) (answer : Result Outcome RunFault) →
    IsUnwritten made → Publishes before after made answer → IsAnswerFor made answer →
    IfErr answer (λ fault. IsUnwrittenAt fault before.contents after.contents)
unwritten before after (Ok m) answer h p (inl same) = rw same tt
unwritten before after (Ok m) answer h p (inr (sent, is)) = rw is (inl tt)
unwritten before after (Err fault) answer h p is =
    rw is (inr (writes_nothing fault before.contents after.contents answer
    (p.text (refused fault) (refusal_for fault h))))

unwritten_made : {A : Type 0} (read : Result A RunFault) (made : Result Ready RunFault) → Follows read made →
    IsUnwritten made
unwritten_made (Ok value) (Ok m) h = tt
unwritten_made (Ok value) (Err faults.Pieces) h = tt
unwritten_made (Ok value) (Err faults.Memory) h = tt
unwritten_made (Ok value) (Err fault) h = absurd h
unwritten_made (Err fault) made (is, nothing) = rw is nothing

-- ---- the report on the bytes

made_outside : (report : Report) (fault : RunFault) → IsFromOutside fault → IsMadeFor report (Err fault)
made_outside report faults.Memory h = tt
made_outside report (faults.Device input) h = tt
made_outside report fault h = absurd h

-- a refusal is what the bytes of the inputs call for
refused_report : (asked : AskedData) (finding : Finding) (fault : RunFault) → IsUnwritten (Err fault) →
    (known : Option (Result InputsData RunFault)) → IfSome known (λ k. IsFromOutside fault ⊎ (k ≡ Err fault)) →
    IfSome (option_map (report_on asked finding) known) (λ report. IsMadeFor report (Err fault))
refused_report asked finding fault nothing None h = tt
refused_report asked finding fault nothing (Some k) (inl outside) = grind (arith, ints, nat_tests, made_outside)
refused_report asked finding fault nothing (Some k) (inr is) = grind (arith, ints, nat_tests, refusal_for)

-- what holds of the report on what was read holds of the report on the bytes
module _ (asked : AskedData) (finding : Finding) {said : SecondData} {e : EvidenceData} (P : Report → Type 0)
    (holds : P (report_on asked finding (Ok (inputs_data said e)))) where
  known_inputs : (bytes second capture : Option (List ℕ)) → IfSome bytes (λ b. claim_read b ≡ Ok e.claim) →
      IfSome (second_read asked.second second) (λ read. read ≡ Ok said) →
      IfSome capture (λ b. capture_read e.claim b ≡ Ok e.collection) →
      IfSome (report_of_bytes asked finding bytes second capture) P
  known_inputs None second capture claim_is second_is capture_is = tt
  known_inputs (Some b) second capture claim_is second_is capture_is = search rules

  report_known : (claim second capture : FeedState) → AreInputsOf asked.second said e claim second capture →
      IfSome (report_of_bytes asked finding claim.remaining second.remaining capture.remaining) P
  report_known claim second capture are = known_inputs _ _ _ are.claim_is are.second_is are.capture_is

-- ---- a run

module _ {T F A : Type 0} (asked : AskedData) {before after : RunState} {second second' : T} {capture capture' : F}
    {read : Result A RunFault} (h : HasRead asked.second before after second second' capture capture' read) where
  -- what was made is published, and the promise is kept
  made_runs : (finding : Finding) (made : Result Ready RunFault) → Follows read made →
      IfOk read (λ _. HasClaim before.claim.remaining × HasSecond asked.second before.second.remaining
      × HasLawfulHeader before.capture.remaining) →
      IfSome (run_report asked finding before) (λ report. IsMadeFor report made) →
      (answer : Result Outcome RunFault) → Publishes before.sink after.sink made answer →
      Runs (run_report asked finding before) (most_second asked.second answer) (HasSecond asked.second)
      before after second second' capture capture' answer
  made_runs finding made follows had is_made answer p =
      let known = known_at read made answer follows p.stays had h in
      let nothing = unwritten_made read made follows in
      record {
        reports = record {
          text = IfSome_then (run_report asked finding before) is_made p.text;
          closed = p.closed;
          sink = p.sink;
          claim = known.claim_faults;
          second = known.second_faults;
          capture = known.capture_faults;
          sums = p.device is_sums ∙ unsummed made nothing;
        };
        unwritten = unwritten before.sink after.sink made answer nothing p p.stays;
        second_untouched = known.second_untouched;
        capture_untouched = known.capture_untouched;
        claim_at_most = known.claim_at_most;
        second_at_most = known.second_at_most;
        capture_at_most = known.capture_at_most;
        claim_memory = known.claim_memory;
        second_memory = known.second_memory;
        capture_memory = known.capture_memory;
      }

  -- an input is refused
  pub refused_runs : (fault : RunFault) → read ≡ Err fault → IsUnwritten (Err fault) →
      IfSome (inputs_read asked.second before.claim.remaining before.second.remaining before.capture.remaining)
      (λ known. IsFromOutside fault ⊎ (known ≡ Err fault)) → (answer : Result Outcome RunFault) →
      Publishes before.sink after.sink (Err fault) answer →
      RunsFor asked before after second second' capture capture' answer
  refused_runs fault is nothing refused answer p = record {
    finding = no_finding;
    found = nothing_shown before.claim.remaining before.capture.remaining;
    runs = made_runs no_finding (Err fault) (rw is (refl, nothing)) (rw is tt)
        (refused_report asked no_finding fault nothing _ refused) answer p;
  }

-- what the outcome of an answer shows
shown_answer : (P : Outcome → Type 0) (made : Result Ready RunFault) (answer : Result Outcome RunFault) →
    IsAnswerFor made answer → IfOk made (λ m. P m.outcome) → IfOk answer P
shown_answer P (Ok m) answer (inl same) h = rw same h
shown_answer P (Ok m) answer (inr (sent, is)) h = rw is tt
shown_answer P (Err fault) answer same h = rw same tt

pub shown_of : (asked : AskedData) {said : SecondData} {e : EvidenceData} (claim second capture : FeedState) →
    AreInputsOf asked.second said e claim second capture → (report : Report) {sink sink' : SinkState}
    {answer : Result Outcome RunFault} → Tells asked report (inputs_data said e) sink sink' answer →
    IfOk answer (asked.question.Shows claim second capture)
shown_of asked claim second capture are report tells = shown_answer _ tells.made _ tells.publishes.stays
    (IfOk-weaker tells.made _ _ (λ m shows. shows claim second capture are) tells.shows)

-- the inputs that gave evidence are lawful
pub inputs_had : {kind : SecondKind} {said : SecondData} {e : EvidenceData} (claim second capture : FeedState)
    → AreInputsOf kind said e claim second capture
    → HasClaim claim.remaining × HasSecond kind second.remaining × HasLawfulHeader capture.remaining
inputs_had {kind} {e = e} claim second capture are = (
  IfSome_then claim.remaining are.claim_is (λ bytes is. rw is refl),
  IfSome_then (second_read kind second.remaining) are.second_is (λ read is. rw is refl),
  header_was_read e.claim capture.remaining e.collection are.capture_is,
)

-- what is known of inputs that were read, or refused, is known of what is made of them
module _ {T F A B : Type 0} {kind : SecondKind} {before after : RunState} {second second' : T} {capture capture' : F}
  where
    pub read_as : (value : A) (made : B) → HasRead kind before after second second' capture capture' (Ok value)
        → HasRead kind before after second second' capture capture' (Ok made)
    read_as value made h = search (rules, second_taken)

    pub memory_as : (value : A) → HasRead kind before after second second' capture capture' (Ok value)
        → HasClaim before.claim.remaining × HasSecond kind before.second.remaining
        × HasLawfulHeader before.capture.remaining
        → HasRead {A = B} kind before after second second' capture capture' (Err faults.Memory)
    memory_as value h had = search (rules, second_taken)

    pub refused_as : (fault : RunFault)
        → HasRead {A = A} kind before after second second' capture capture' (Err fault)
        → HasRead {A = B} kind before after second second' capture capture' (Err fault)
    refused_as fault h = search (rules, second_taken)

-- no input's device failed if a text was made of them
unfailed : (which : Input → Bool) (made : Result Ready RunFault) → IfErr made IsOfMaking → is_device which made ≡ false
unfailed which (Err (faults.Device input)) making = absurd making
unfailed which made making = refl

module _ (laws : BytesLaws) {T F A : Type 0} (asked : AskedData) {said : SecondData} {e : EvidenceData}
    {before after : RunState} {second second' : T} {capture capture' : F} {read : Result A RunFault}
    (h : HasRead asked.second before after second second' capture capture' read) {value : A} (is : read ≡ Ok value)
    (are : AreInputsOf asked.second said e before.claim before.second before.capture) {finding : Finding}
    (found : IsFindingOf e finding) where
  -- what is made of a finding is told
  pub told_runs : (answer : Result Outcome RunFault) →
      Tells asked (report_on asked finding (Ok (inputs_data said e))) (inputs_data said e) before.sink after.sink answer
      → RunsFor asked before after second second' capture capture' answer
  told_runs answer tells = record {
    finding = finding;
    found = finding_shown laws e finding before.claim before.second before.capture are found;
    runs = made_runs asked h finding tells.made (rw is tells.of_making)
        (rw is (inputs_had before.claim before.second before.capture are))
        (report_known asked finding (λ report. IsMadeFor report tells.made) tells.is_made before.claim before.second
        before.capture are) answer tells.publishes;
  }

  -- it is told twice: a draft is whole, and the output gets its text
  pub told_twice : {out out' : SinkState} (outcome : Outcome) (answer : Result Outcome RunFault) →
      Tells (for_a_program asked) (report_on (for_a_program asked) finding (Ok (inputs_data said e)))
      (inputs_data said e) before.sink after.sink (Ok outcome) →
      Tells asked (report_on asked finding (Ok (inputs_data said e))) (inputs_data said e) out out' answer →
      RunsTwice asked before after second second' capture capture' out out' answer
  told_twice {out} {out'} outcome answer drafts tells =
      let text = tells.publishes.text (report_on asked finding (Ok (inputs_data said e))) tells.is_made in
      record {
        finding = finding;
        found = finding_shown laws e finding before.claim before.second before.capture are found;
        drafted = Ok outcome;
        runs = made_runs (for_a_program asked) h finding drafts.made (rw is drafts.of_making)
            (rw is (inputs_had before.claim before.second before.capture are))
            (report_known (for_a_program asked) finding (λ report. IsMadeFor report drafts.made) drafts.is_made
            before.claim before.second before.capture are) (Ok outcome) drafts.publishes;
        then_told = record {
          inputs = inputs_data said e;
          are_inputs = are;
          found = found;
          draft = drafts.publishes.text (report_on (for_a_program asked) finding (Ok (inputs_data said e)))
              drafts.is_made;
          text = text;
          of_bytes = report_known asked finding (λ r. GetsText r out.contents out'.contents answer) text before.claim
              before.second before.capture are;
          closed = tells.publishes.closed;
          sink = tells.publishes.sink;
          unfailed = λ which. tells.publishes.device which ∙ unfailed which tells.made tells.of_making;
        };
        shows = shown_of asked before.claim before.second before.capture are _ tells;
      }

-- a run that would tell twice is given up before its draft is whole
pub given_up : {T F : Type 0} (asked : AskedData) {before after : RunState} {second second' : T} {capture capture' : F}
    (out : SinkState) (fault : RunFault) (answer : Result Outcome RunFault) → answer ≡ Err fault →
    RunsFor (for_a_program asked) before after second second' capture capture' answer →
    RunsTwice asked before after second second' capture capture' out out answer
given_up asked out fault answer is draft = record {
  finding = draft.finding;
  found = draft.found;
  drafted = answer;
  runs = draft.runs;
  then_told = refused_twice _ (out ≡ out) fault answer is refl;
  shows = rw is tt;
}
