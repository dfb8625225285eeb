-- The report of `settle`, and what it shows: that the claim is shown, refuted, fitted by no course
-- or without evidence, or that it stays open. Which certificate by covers, which refutation and
-- which least bound are found has no definition of its own, so the report is one on what was found.
use Rattle.std.specs.Prelude.{◌≡◌, ℕ, ℤ, Bool, true, false, List, length, AllPairs, ◌++◌, codes, Option, Some, None, IsSome, is_some, unwrap_or, option_map, ◌&&◌, not, if◌then◌else◌, Result, Ok, Err}
use Rattle.audit.specs.Common.{AnyData, of_pieces, by_covers, AnswerData, answer_data, of_finder, shown_by_covers, CoverCertificateData, IsShownByCoversAlone, covers_answer, covers_json, IsBytes, FeedState, CertificateData, refutation_text, certificate_text, SettledData, shown, refuted, fitted_by_none, no_evidence, left_open, IsFittedByNone, Hull, IsLeftOpen, IsShownBy, IsUnheard, LeastCarried, MayStayOpen, FindFault, SameRequest, Outcome, Yes, No, Report, refused, whole_text, Style, Plain, Human, evidence_answer, open_answer, refutation_answer, shown_answer, about_told, conflicts_text, evidence_text, open_text}
use Rattle.finder.specs.declared.fault.FindFault.TheVariants.{Memory}
use Rattle.audit.specs.Check.{AreCoversTraced, ArePiecesTraced, HasVerdictYes, IsTracedTo, IsYesByCovers}
use Rattle.audit.specs.Evidence.{EvidenceData, GiveEvidence, OfClaimAndCapture}
use Rattle.audit.specs.Find.{find_run_fault_of}
use Rattle.audit.specs.Headline.{IsShown}
use Rattle.audit.specs.HeadlineByCovers.{IsShownByCovers}
use Rattle.audit.specs.Refute.{AreContested, IsContestedOf}
use Rattle.audit.specs.Question.{Finding, QuestionData, no_finding}
use Rattle.audit.specs.declared.question.settle.Settlement.{Settlement}

-- for a program: a certificate's or a refutation's compact text and a line feed, or lines
unfoldable pub settled_text : EvidenceData → SettledData → List ℕ
settled_text e (shown certificate) = certificate_text certificate ++ codes "\n"
settled_text e (refuted refutation) = refutation_text refutation ++ codes "\n"
settled_text e (fitted_by_none conflicts) =
    conflicts_text Plain e.claim e.collection.exchanges conflicts
settled_text e (no_evidence groups) = evidence_text Plain e.claim groups
settled_text e (left_open begin end hull covers most) = open_text Plain begin end hull

-- for a person: what was found, on the least bound in nanoseconds that a certificate carries
unfoldable pub settled_answer : EvidenceData → Option ℕ → SettledData → List ℕ
settled_answer e least (shown certificate) =
    shown_answer e.claim (length certificate.pieces) least
settled_answer e least (refuted refutation) =
    refutation_answer (codes "refuted") e.claim refutation
settled_answer e least (fitted_by_none conflicts) =
    conflicts_text Human e.claim e.collection.exchanges conflicts
settled_answer e least (no_evidence groups) =
    evidence_answer e.claim e.collection.exchanges groups
settled_answer e least (left_open begin end hull covers most) =
    open_answer e.claim begin end hull covers most least

-- the same of a certificate by covers too
abbrev pub program_text : EvidenceData → AnswerData → List ℕ
program_text e (of_finder settled) = settled_text e settled
program_text e (shown_by_covers certificate) = covers_json certificate ++ codes "\n"

abbrev pub person_text : EvidenceData → Option ℕ → AnswerData → List ℕ
person_text e least (of_finder settled) = settled_answer e least settled
person_text e least (shown_by_covers certificate) =
    covers_answer e.claim e.collection.exchanges certificate

-- the answer is on the least bound
abbrev pub names_least : AnswerData → Bool
names_least (of_finder (shown certificate)) = true
names_least (of_finder (left_open begin end hull covers most)) = true
names_least answer = false

-- the whole text; there is none for a person if it names the least bound, and none was looked for
abbrev pub text_for : Style → EvidenceData → Option (Option LeastCarried) → AnswerData
    → Option (List ℕ)
text_for Plain e found answer = Some (program_text e answer)
text_for style e found answer =
    if names_least answer && not (is_some found) then None
    else Some (person_text e (option_map (λ least. least.bound_ns) (unwrap_or found None)) answer)

-- a text in this style is on the least bound
abbrev pub is_on_least : Style → AnswerData → Bool
is_on_least Plain answer = false
is_on_least style answer = names_least answer

-- What was found is enough for a text in this style.
abbrev pub IsEnoughFor : Style → EvidenceData → Settlement → Type 0
IsEnoughFor style e found = IsSome (text_for style e found.least (answer_data found.answer))

-- the outcome: yes if the claim is shown
abbrev pub settled_outcome : AnswerData → Outcome
settled_outcome (of_finder (shown certificate)) = Yes
settled_outcome (shown_by_covers certificate) = Yes
settled_outcome answer = No

-- the report on a text with what stands about the inputs, and on none
abbrev pub report_of : AnswerData → List ℕ → Option (List ℕ) → Report
report_of answer about (Some text) = whole_text (text ++ about) (settled_outcome answer)
report_of answer about None = refused (find_run_fault_of Memory)

-- the report of `settle` on what settles the claim, or why it isn't known
abbrev pub settle_report :
    Style → List ℕ → Finding → EvidenceData → Result AnswerData FindFault → Report
settle_report style about finding e (Ok answer) =
    report_of answer (about_told style about) (text_for style e finding.least answer)
settle_report style about finding e (Err fault) = refused (find_run_fault_of fault)

-- what the report is on
abbrev pub finding_of : Settlement → Finding
finding_of found =
    record no_finding { settled = Ok (answer_data found.answer); least = found.least }

-- ---- what a finding shows of evidence

-- The certificate shows the claim: all that a yes of `check` says of it, courses fit, and no
-- accepted certificate has fewer pieces. The exchanges of one request agree, so that they share its
-- moment in these courses.
pub record IsShownOf (certificate : CertificateData) (e : EvidenceData) : Type 0 where
  pub yes : HasVerdictYes certificate e
  pub shown_by : IsShownBy e.claim e.collection.exchanges certificate
  pub agree : AllPairs SameRequest e.collection.exchanges

-- The claim stays open, and what keeps it open is rounding, or that covers or pieces are too many.
pub record IsOpenOf (begin end : ℤ) (hull : Hull) (covers : ℕ) (most : Option ℤ)
    (e : EvidenceData) : Type 0 where
  pub left : IsLeftOpen e.claim e.collection.exchanges begin end hull covers most
  pub reason : MayStayOpen e.claim e.collection.exchanges

-- one of five answers: a refutation is one for which `refute --drift` says yes
abbrev pub IsSettledOf : EvidenceData → SettledData → Type 0
IsSettledOf e (shown certificate) = IsShownOf certificate e
IsSettledOf e (refuted refutation) = IsContestedOf true refutation e
IsSettledOf e (fitted_by_none conflicts) =
    IsFittedByNone e.claim e.collection.exchanges conflicts
IsSettledOf e (no_evidence groups) = IsUnheard e.claim e.collection.exchanges groups
IsSettledOf e (left_open begin end hull covers most) =
    IsOpenOf begin end hull covers most e

-- The certificate by covers shows the claim, and no certificate of pieces does: all that a yes of
-- `check` says of it, and courses fit.
pub record IsShownByCoversOf (certificate : CoverCertificateData) (e : EvidenceData)
    : Type 0 where
  pub yes : IsYesByCovers certificate e
  pub alone : IsShownByCoversAlone e.claim e.collection.exchanges certificate
  pub agree : AllPairs SameRequest e.collection.exchanges

abbrev pub IsAnswerOf : EvidenceData → AnswerData → Type 0
IsAnswerOf e (of_finder settled) = IsSettledOf e settled
IsAnswerOf e (shown_by_covers certificate) = IsShownByCoversOf certificate e

-- ---- what it shows of bytes

-- The certificate shows the claim, and the clock is traced to UTC as at a yes of `check`: whole, in
-- relations alone, and piece by piece.
pub record IsShownFrom (certificate : CertificateData) (claim capture : List ℕ) : Type 0 where
  pub evidence : GiveEvidence (IsShownOf certificate) claim capture
  pub whole : IsTracedTo claim capture
  pub in_relations : IsBytes capture → IsShown claim capture
  pub by_pieces : GiveEvidence (ArePiecesTraced certificate) claim capture

-- What settles the claim does so by evidence that the bytes give; a certificate and a refutation
-- show it in relations alone too.
abbrev pub IsSettledFrom : SettledData → List ℕ → List ℕ → Type 0
IsSettledFrom (shown certificate) claim capture = IsShownFrom certificate claim capture
IsSettledFrom (refuted refutation) claim capture =
    AreContested (GiveEvidence (IsContestedOf true refutation)) claim capture
IsSettledFrom settled claim capture = GiveEvidence (λ e. IsSettledOf e settled) claim capture

-- The same of a certificate by covers, by what it names.
pub record IsShownByCoversFrom (certificate : CoverCertificateData) (claim capture : List ℕ)
    : Type 0 where
  pub evidence : GiveEvidence (IsShownByCoversOf certificate) claim capture
  pub whole : IsTracedTo claim capture
  pub in_relations : IsBytes capture → IsShownByCovers claim capture
  pub named : GiveEvidence (AreCoversTraced certificate) claim capture

-- of a certificate of either form
abbrev pub IsShownFromAny : AnyData → List ℕ → List ℕ → Type 0
IsShownFromAny (of_pieces certificate) = IsShownFrom certificate
IsShownFromAny (by_covers certificate) = IsShownByCoversFrom certificate

abbrev pub IsAnswerFrom : AnswerData → List ℕ → List ℕ → Type 0
IsAnswerFrom (of_finder settled) claim capture = IsSettledFrom settled claim capture
IsAnswerFrom (shown_by_covers certificate) claim capture =
    IsShownByCoversFrom certificate claim capture

-- what an outcome shows of them
pub record IsSettledBy (outcome : Outcome) (claim capture : List ℕ) : Type 0 where
  pub answer : AnswerData
  pub outcome_is : outcome ≡ settled_outcome answer
  pub holds : IsAnswerFrom answer claim capture

-- the same of inputs, if their bytes are known
abbrev pub IsSettled : Outcome → FeedState → FeedState → Type 0
IsSettled outcome claim capture = OfClaimAndCapture claim capture (IsSettledBy outcome)

-- is the claim shown, refuted, fitted by no course, without evidence, or does it stay open? A
-- person is told this about the inputs.
abbrev pub settle : List ℕ → QuestionData
settle about = record {
  report = λ style finding said e. settle_report style about finding e finding.settled;
  Shows = λ claim second capture outcome. IsSettled outcome claim capture;
}
