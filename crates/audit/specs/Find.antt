-- The report of `find`: a certificate, or the first piece for which none can be accepted; and what
-- its outcome says.
use Rattle.std.specs.Prelude.{◌≡◌, ◌≢◌, ℕ, List, length, ◌++◌, codes, Result, Ok, Err}
use Rattle.audit.specs.Common.{FeedState, CertificateData, certificate_text, ClaimData, HoldsError, IsContradicted, Hull, Empty, FindFault, FoundData, certificate, nothing, found_of, stretch_at, NoneIsAcceptedOver, Outcome, RunFault, Pieces, Memory, Report, refused, whole_text, Style, Plain, found_answer, nothing_text}
use Rattle.checker.specs.declared.verdict.Verdict.TheVariants as verdicts
use Rattle.finder.specs.declared.fault.FindFault.TheVariants as finds
use Rattle.report.specs.declared.fault.Outcome.TheVariants as outcomes
use Rattle.audit.specs.Check.{verdict_on}
use Rattle.audit.specs.Evidence.{EvidenceData, GiveEvidence, OfClaimAndCapture, samples_in}
use Rattle.audit.specs.Question.{ByOutcome, QuestionData}

-- what is found, in words: a certificate of pieces of this many seconds, for a program its compact
-- text and a line feed, and for a person that it is found; or the number of the piece that fails
-- and its hull
unfoldable pub found_text : FoundData → Style → ℕ → ClaimData → List ℕ
found_text (certificate c) Plain step claim = certificate_text c ++ codes "\n"
found_text (certificate c) style step claim = found_answer claim step (length c.pieces)
found_text (nothing piece hull) style step claim = nothing_text style piece hull

-- the outcome: yes if there is a certificate
abbrev pub found_outcome : FoundData → Outcome
found_outcome (certificate c) = outcomes.Yes
found_outcome (nothing piece hull) = outcomes.No

-- what a run answers if no certificate could be looked for
abbrev pub find_run_fault_of : FindFault → RunFault
find_run_fault_of finds.TooManyPieces = Pieces
find_run_fault_of finds.Memory = Memory

-- the report on what is found
abbrev pub found_report : Style → ℕ → ClaimData → Result FoundData FindFault → Report
found_report style step claim (Ok found) =
    whole_text (found_text found style step claim) (found_outcome found)
found_report style step claim (Err fault) = refused (find_run_fault_of fault)

-- what is found in the samples of a capture, for pieces of this many seconds
abbrev pub found_in : ℕ → EvidenceData → Result FoundData FindFault
found_in step e = found_of (samples_in e) e.claim step

-- a certificate is found of this evidence, and it is accepted
pub record IsFoundOf (step : ℕ) (e : EvidenceData) : Type 0 where
  pub found : CertificateData
  pub found_is : found_in step e ≡ Ok (certificate found)
  pub accepted : verdict_on found e ≡ verdicts.Yes

-- Nothing is found in this evidence: a piece fails, which the report names with its hull. If the
-- hull is empty, no course of events that fits the exchanges has its reading in that piece,
-- otherwise no certificate is accepted that has a piece over the whole of it. In every course that
-- fits, the error lies in the hull at every moment whose reading lies in the piece.
pub record IsNotFoundOf (step : ℕ) (e : EvidenceData) : Type 0 where
  pub piece : ℕ
  pub hull : Hull
  pub found_is : found_in step e ≡ Ok (nothing piece hull)
  pub empty : hull ≡ Empty →
      IsContradicted e.claim (samples_in e) (stretch_at e.claim step piece)
  pub none_accepted : hull ≢ Empty →
      NoneIsAcceptedOver (samples_in e) e.claim (stretch_at e.claim step piece)
  pub held : HoldsError e.claim (samples_in e) (stretch_at e.claim step piece) hull

-- At a yes a certificate is found and accepted, if the bytes of claim and capture are known: a
-- check of the three says yes.
abbrev pub IsFound : ℕ → FeedState → FeedState → Type 0
IsFound step claim capture = OfClaimAndCapture claim capture (GiveEvidence (IsFoundOf step))

-- At a no nothing is found, if these bytes are known.
abbrev pub IsNotFound : ℕ → FeedState → FeedState → Type 0
IsNotFound step claim capture = OfClaimAndCapture claim capture (GiveEvidence (IsNotFoundOf step))

-- what the outcome of a search shows of evidence
abbrev pub IsSearchOf : ℕ → EvidenceData → Outcome → Type 0
IsSearchOf step e = ByOutcome (IsFoundOf step e) (IsNotFoundOf step e)

-- This is what is found of evidence, and it shows what it says.
pub record IsFoundBy (step : ℕ) (e : EvidenceData) (found : FoundData) : Type 0 where
  pub found_is : found_in step e ≡ Ok found
  pub shows : IsSearchOf step e (found_outcome found)

-- is there a certificate with pieces of this many seconds?
abbrev pub find : ℕ → QuestionData
find step = record {
  report = λ style finding said e. found_report style step e.claim (found_in step e);
  Shows = λ claim second capture outcome.
      OfClaimAndCapture claim capture (GiveEvidence (λ e. IsSearchOf step e outcome));
}
