-- The report of `refute`, and what its outcome says.
use Rattle.std.specs.Prelude.{◌≡◌, ℕ, List, ◌++◌, codes, Bool, true, false, Option}
use Rattle.audit.specs.Common.{FeedState, CertificateData, RefutationData, ClaimData, Course, HasCourse, IsAgainst, IsRefuted, is_refuted, HasDriftCourse, IsRefutedWithDrift, Shows, is_refuted_with_drift, refutation_read, Outcome, Yes, No, Memory, Report, refused, whole_text, Style, Plain, refutation_answer, about_told, refuted_text}
use Rattle.checker.specs.declared.verdict.Verdict.TheVariants as verdicts
use Rattle.audit.specs.Check.{GiveSecond, verdict_on}
use Rattle.audit.specs.Contested.{ShowsContested}
use Rattle.audit.specs.Evidence.{EvidenceData, OfClaimAndCapture}
use Rattle.audit.specs.Question.{ByOutcome, QuestionData}
use Rattle.audit.specs.Second.{SecondData, refutation_said}

-- the outcome for whether a refutation stands
abbrev pub refuted_outcome : Bool → Outcome
refuted_outcome true = Yes
refuted_outcome false = No

-- whether a refutation stands on the exchanges of a capture: one whose error may drift, or one
-- whose error never changes
abbrev pub stands_on : Bool → RefutationData → EvidenceData → Bool
stands_on true refutation e = is_refuted_with_drift e.claim e.collection.exchanges refutation
stands_on false refutation e = is_refuted e.claim e.collection.exchanges refutation

-- the word of the answer
abbrev pub refuted_word : Bool → List ℕ
refuted_word true = codes "refuted yes"
refuted_word false = codes "refuted no"

-- the answer to a refutation: for a person also what it says
unfoldable pub judged_text : Style → ClaimData → RefutationData → Bool → List ℕ
judged_text Plain claim refutation stands = refuted_text stands
judged_text style claim refutation stands =
    refutation_answer (refuted_word stands) claim refutation

-- the refutation is accepted
abbrev pub IsOfRefuted : Bool → RefutationData → EvidenceData → Type 0
IsOfRefuted true refutation e = IsRefutedWithDrift e.claim e.collection.exchanges refutation
IsOfRefuted false refutation e = IsRefuted e.claim e.collection.exchanges refutation

-- a course of events fits the exchanges in which the clock is off by its error: at its reading, or
-- throughout
abbrev pub HasCourseOf : Bool → RefutationData → EvidenceData → Type 0
HasCourseOf true refutation e = HasDriftCourse e.claim e.collection.exchanges refutation
HasCourseOf false refutation e = HasCourse e.claim e.collection.exchanges refutation

-- The refutation is accepted. So a course of events fits the exchanges in which the clock is off by
-- its error, beyond the bound, and no certificate has a verdict of yes.
pub record IsContestedOf (drift : Bool) (refutation : RefutationData) (e : EvidenceData)
    : Type 0 where
  pub accepted : IsOfRefuted drift refutation e
  pub course : HasCourseOf drift refutation e
  pub no_yes : (certificate : CertificateData) → ¬ (verdict_on certificate e ≡ verdicts.Yes)

-- no course of events shows the refutation, of any fineness and with any of its servers false
abbrev pub IsShownByNone : Bool → RefutationData → EvidenceData → Type 0
IsShownByNone true refutation e = IsAgainst e.claim refutation
    → (course : Course) → ¬ (Shows e.claim e.collection.exchanges refutation course)
IsShownByNone false refutation e = Unit {0}

-- It isn't accepted. So if its error may drift, and what it says by itself is against the claim, no
-- course shows it.
pub record IsUncontestedOf (drift : Bool) (refutation : RefutationData) (e : EvidenceData)
    : Type 0 where
  pub refused : ¬ (IsOfRefuted drift refutation e)
  pub shown_by_none : IsShownByNone drift refutation e

-- A refutation and evidence are such that this holds of them.
abbrev pub GiveRefutation : (RefutationData → EvidenceData → Type 0) → Option (List ℕ)
    → List ℕ → List ℕ → Type 0
GiveRefutation = GiveSecond refutation_read

-- The bytes give a refutation that stands, and that a course breaks the claim is shown in relations
-- alone.
pub record AreContested (Stands : List ℕ → List ℕ → Type 0) (claim capture : List ℕ)
    : Type 0 where
  pub stands : Stands claim capture
  pub shown : ShowsContested claim capture

-- So it is at a yes, if the bytes of claim and capture are known.
abbrev pub IsContested : Bool → FeedState → FeedState → FeedState → Type 0
IsContested drift claim second capture = OfClaimAndCapture claim capture
    (AreContested (GiveRefutation (IsContestedOf drift) second.remaining))

-- At a no it falls, if these bytes are known.
abbrev pub IsUncontested : Bool → FeedState → FeedState → FeedState → Type 0
IsUncontested drift claim second capture =
    OfClaimAndCapture claim capture (GiveRefutation (IsUncontestedOf drift) second.remaining)

-- what the outcome for a refutation shows of evidence
abbrev pub IsSettledFor : Bool → RefutationData → EvidenceData → Outcome → Type 0
IsSettledFor drift refutation e =
    ByOutcome (IsContestedOf drift refutation e) (IsUncontestedOf drift refutation e)

-- the report on a refutation, with what stands about the inputs; nothing else is judged
abbrev pub report_on : Style → Bool → List ℕ → SecondData → EvidenceData → Report
report_on style drift about (refutation_said refutation) e = whole_text
    (judged_text style e.claim refutation (stands_on drift refutation e) ++ about_told style about)
    (refuted_outcome (stands_on drift refutation e))
report_on style drift about said e = refused Memory

-- does a refutation stand against the claim, and may the clock's error drift? A person is told this
-- about the inputs.
abbrev pub refute : Bool → List ℕ → QuestionData
refute drift about = record {
  report = λ style finding said e. report_on style drift about said e;
  Shows = λ claim second capture.
      ByOutcome (IsContested drift claim second capture) (IsUncontested drift claim second capture);
}
