-- What an outcome shows, from the bytes of the inputs.
use Rattle.std.proofs.lemmas.Grind.{common_steps}
use Rattle.std.proofs.Common.{rules}
use Rattle.audit.proofs.Common.{IfOk-weaker, ap, AnswerData, AreCoversTraced, CertificateData, CoverCertificateData, IsAnswerFrom, IsAnswerOf, IsBytes, IsShownByCovers, IsShownByCoversOf, IsYesByCovers, ◌⊎◌, ◌≡◌, ℕ, true, List, Option, Some, None, Result, Ok, Err, refl, sym, inl, inr, IfSome, IfOk, option_map, MatchResult, FeedState, SinkState, SettledData, FindFault, find_run_fault_of, Outcome, RunFault, Style, IsMadeFor, Publishes, Ready, Report, refused, whole_text, ArePiecesTraced, HasVerdictYes, IsTracedTo, EvidenceData, GiveEvidence, IsEvidenceOf, OfClaimAndCapture, AreInputsOf, Finding, QuestionData, no_finding, SecondData, SecondKind, InputsData, IsOfMaking, IsUnfound, IsFindingFrom, IsFindingOf, IsSettlementFrom, IsSettlementOf, ShowsFinding, IsSettledFrom, IsSettledOf, IsShownOf, IfSome_then, result_map_both, BytesLaws, TellsOf, arith, ints, nat_tests}
use Rattle.cover_finder.specs.Answer as answers
use Rattle.finder.specs.Settlement as settles
use Rattle.finder.specs.declared.fault.FindFault.TheVariants as finds
use Rattle.report.specs.declared.fault.RunFault.TheVariants as faults
use Rattle.audit.proofs.Excess.{contests}
use Rattle.audit.specs.Check.{GiveSecond}

-- ---- what evidence shows, the bytes that give it show

pub of_inputs : {kind : SecondKind} {said : SecondData} (e : EvidenceData) (R : List ℕ → List ℕ → Type 0) →
    ((b f : List ℕ) → IsEvidenceOf b f e → R b f) → (claim second capture : FeedState) →
    AreInputsOf kind said e claim second capture → OfClaimAndCapture claim capture R
of_inputs e R shows claim second capture are = grind (arith, ints, nat_tests, common_steps)

-- of what only evidence is asked of
pub of_evidence : {kind : SecondKind} {said : SecondData} (P : EvidenceData → Type 0) (e : EvidenceData) → P e →
    (claim second capture : FeedState) → AreInputsOf kind said e claim second capture →
    OfClaimAndCapture claim capture (GiveEvidence P)
of_evidence P e holds claim second capture are = search (rules, of_inputs)

-- ---- what a second input says, its bytes say

module _ {T : Type 0} (said : T → SecondData) (one : (t u : T) → said t ≡ said u → t ≡ u) (t : T) where
  read_is : (r : Result T RunFault) → result_map_both said (λ fault. fault) r ≡ Ok (said t) → r ≡ Ok t
  read_is (Ok u) is = ap Ok (one u t cc)
  read_is (Err fault) is = absurd cc

  pub said_is : (read : List ℕ → Result T RunFault) (known : Option (List ℕ)) →
      IfSome (option_map (λ s. result_map_both said (λ fault. fault) (read s)) known) (λ r. r ≡ Ok (said t)) →
      IfSome known (λ s. read s ≡ Ok t)
  said_is read None is = tt
  said_is read (Some s) is = read_is (read s) is

  pub of_second : (read : List ℕ → Result T RunFault) (P : T → EvidenceData → Type 0) (e : EvidenceData) → P t e →
      (known : Option (List ℕ)) →
      IfSome (option_map (λ s. result_map_both said (λ fault. fault) (read s)) known) (λ r. r ≡ Ok (said t)) →
      (b f : List ℕ) → IsEvidenceOf b f e → GiveSecond read P known b f
  of_second read P e holds known second_is b f is = let says = said_is read known second_is in search rules

-- ---- a yes, and what was found

module _ (laws : BytesLaws) (b f : List ℕ) (e : EvidenceData) (is : IsEvidenceOf b f e)
    (certificate : CertificateData) (h : HasVerdictYes certificate e) where
  -- at a verdict of yes the clock is traced to UTC, whole and piece by piece
  pub traced_to : IsTracedTo b f
  traced_to = record {
    claim = e.claim;
    collection = e.collection;
    claim_is = is.claim_is;
    collection_is = is.collection_is;
    within = λ course. h.whole e.collection.exchanges course refl;
    in_nanoseconds = λ course fits observed.
        laws.nanoseconds b e.claim course is.claim_is (h.whole e.collection.exchanges course refl fits observed);
  }

  pub pieces_traced : ArePiecesTraced certificate e
  pieces_traced = record {
    accepted = h.verdict_is;
    within = λ k piece course stands fits observed. laws.nanoseconds b e.claim course is.claim_is
        (h.by_pieces e.collection.exchanges k piece course refl stands fits observed);
  }

-- the same by covers
module _ (laws : BytesLaws) (b f : List ℕ) (e : EvidenceData) (is : IsEvidenceOf b f e)
    (certificate : CoverCertificateData) (h : IsYesByCovers certificate e) where
  pub covers_traced_to : IsTracedTo b f
  covers_traced_to = record {
    claim = e.claim;
    collection = e.collection;
    claim_is = is.claim_is;
    collection_is = is.collection_is;
    within = h.whole;
    in_nanoseconds = λ course fits observed.
        laws.nanoseconds b e.claim course is.claim_is (h.whole course fits observed);
  }

  pub covers_traced : AreCoversTraced certificate e
  covers_traced = record {
    accepted = h.accepted;
    within = λ course fits observed.
        laws.nanoseconds b e.claim course is.claim_is (h.named course fits observed);
  }

  pub covers_shown : IsBytes f → IsShownByCovers b f
  covers_shown bytes =
      laws.by_covers b f e.claim e.collection certificate bytes is.claim_is is.collection_is h.accepted

module _ (laws : BytesLaws) (b f : List ℕ) (e : EvidenceData) (is : IsEvidenceOf b f e) where
  give_of : (P : EvidenceData → Type 0) → P e → GiveEvidence P b f
  give_of P holds = record { evidence = e; evidence_is = is; holds = holds }

  -- what settles the claim by this evidence settles it by these bytes
  settled_from : (settled : SettledData) → IsSettledOf e settled → IsSettledFrom settled b f
  settled_from (settles.shown certificate) h = record {
    evidence = give_of (IsShownOf certificate) h;
    whole = traced_to laws b f e is certificate h.yes;
    in_relations = λ bytes.
        laws.headline b f e.claim e.collection certificate bytes is.claim_is is.collection_is h.yes.verdict_is;
    by_pieces = give_of (ArePiecesTraced certificate) (pieces_traced laws b f e is certificate h.yes);
  }
  settled_from (settles.refuted refutation) h =
      let shown = contests laws.contested true refutation e h b f is in search rules
  settled_from settled h = give_of (λ evidence. IsSettledOf evidence settled) h

  pub answer_from : (answer : AnswerData) → IsAnswerOf e answer → IsAnswerFrom answer b f
  answer_from (answers.of_finder settled) h = settled_from settled h
  answer_from (answers.shown_by_covers certificate) h = record {
    evidence = give_of (IsShownByCoversOf certificate) h;
    whole = covers_traced_to laws b f e is certificate h.yes;
    in_relations = covers_shown laws b f e is certificate h.yes;
    named = give_of (AreCoversTraced certificate) (covers_traced laws b f e is certificate h.yes);
  }

  settlement_of : (settled : Result AnswerData FindFault) → IsSettlementOf e settled → IsSettlementFrom settled b f
  settlement_of (Ok answer) h = answer_from answer h
  settlement_of (Err fault) h = search rules

  finding_of : (finding : Finding) → IsFindingOf e finding → IsFindingFrom finding b f
  finding_of finding h = search (rules, IfSome_then, settlement_of)

-- ---- a run

-- what a run found is shown of the bytes of its inputs
pub finding_shown : {kind : SecondKind} {said : SecondData} (laws : BytesLaws) (e : EvidenceData) (finding : Finding)
    (claim second capture : FeedState) → AreInputsOf kind said e claim second capture → IsFindingOf e finding →
    ShowsFinding finding claim capture
finding_shown laws e finding claim second capture are found = search (rules, of_inputs, finding_of)

pub nothing_shown : (claim capture : Option (List ℕ)) → IfSome claim (λ b. IfSome capture (IsFindingFrom no_finding b))
nothing_shown (Some b) (Some f) = record { settled = inl refl; least = tt; fits = tt; over = tt }
nothing_shown _ _ = tt

-- ---- what is told

-- nothing was looked for, and nothing is said
pub nothing_found : (e : EvidenceData) → IsFindingOf e no_finding
nothing_found e = record { settled = tt; least = tt; fits = tt; over = tt }

-- memory was refused before anything was found
pub memory_unfound : (question : QuestionData) (inputs : InputsData) → IsUnfound question inputs faults.Memory
memory_unfound question inputs = record {
  finding = no_finding;
  found = nothing_found inputs.evidence;
  of_making = tt;
  is_made = λ style. tt;
}

pub made_whole_is : {T E : Type 0} (text : Result T E) (items : T → List ℕ) (outcome : Outcome)
    (made : Result Ready RunFault) (expected : List ℕ) →
    MatchResult text (λ t. made ≡ Ok (record { text = items t; outcome = outcome })) (λ e. made ≡ Err faults.Memory) →
    IfOk text (λ t. items t ≡ expected) → IsMadeFor (whole_text expected outcome) made
made_whole_is (Ok t) items outcome made expected is same = rw is (sym same, refl)
made_whole_is (Err e) items outcome made expected is same = rw is tt

-- a text that was made whole, or wasn't, is told
pub told_whole : {report : Report} {Shows : Outcome → Type 0} {expected : List ℕ} {outcome : Outcome}
    {before after : SinkState} {answer : Result Outcome RunFault} → report ≡ whole_text expected outcome →
    Shows outcome → TellsOf (whole_text expected outcome) (λ o. o ≡ outcome) before after answer →
    TellsOf report Shows before after answer
told_whole is shows whole = record {
  made = whole.made;
  is_made = rw is whole.is_made;
  of_making = whole.of_making;
  shows = IfOk-weaker whole.made _ _ (λ m is. rw is shows) whole.shows;
  publishes = whole.publishes;
}

-- why nothing is made is told
pub told_fault : {report : Report} {Shows : Outcome → Type 0} {fault : RunFault} {before after : SinkState}
    {answer : Result Outcome RunFault} → IsOfMaking fault → IsMadeFor report (Err fault) →
    Publishes before after (Err fault) answer → TellsOf report Shows before after answer
told_fault {fault = fault} making is publishes =
    record { made = Err fault; is_made = is; of_making = making; shows = tt; publishes = publishes }

-- why nothing could be looked for is the report on what is found
pub unfound_as : {D : Type 0} (question : QuestionData) (inputs : InputsData) (finding : Finding)
    (report : Style → Result D FindFault → Report) (found : Result D FindFault) (fault : FindFault) →
    (fault ≡ finds.Memory) ⊎ (found ≡ Err fault) → IsFindingOf inputs.evidence finding →
    ((style : Style) → question.report style finding inputs.said inputs.evidence ≡ report style found) →
    ((style : Style) → report style (Err fault) ≡ refused (find_run_fault_of fault)) →
    IsUnfound question inputs (find_run_fault_of fault)
unfound_as question inputs finding report found finds.Memory why holds is refuses = memory_unfound question inputs
unfound_as question inputs finding report found finds.TooManyPieces (inl memory) holds is refuses = absurd cc
unfound_as question inputs finding report found finds.TooManyPieces (inr same) holds is refuses = record {
  finding = finding;
  found = holds;
  of_making = tt;
  is_made = λ style. rw (is style, same, refuses style) (refl, refl);
}

-- a fault is told, and nothing behind it
pub refused_twice : (P : Outcome → Type 0) (X : Type 0) (fault : RunFault) (answer : Result Outcome RunFault) →
    answer ≡ Err fault → X → MatchResult answer P (λ f. (answer ≡ Err f) × X)
refused_twice P X fault (Ok outcome) is holds = absurd cc
refused_twice P X fault (Err other) is holds = (refl, holds)
