-- The report of `check`, and what its outcome says about every course of events.
use Rattle.std.specs.Prelude.{◌≡◌, ◌≢◌, ℕ, [], Bool, List, length, Option, Some, None, Result, Ok, slice_get, IfSome, IsSome, IsSomeAnd}
use Rattle.audit.specs.Common.{AnyData, AnyVerdict, ByCovers, CoverCertificateData, CoverVerdict, FitsNamed, IsAcceptedByCovers, IsCoverVerdict, IsNamed, IsTraceableByCovers, IsTraceableToAll, OfPieces, by_covers, cover_verdict_of, covers_text, of_pieces, piece_count, IsBytes, FeedState, PieceData, CertificateData, ClaimData, group_count, Collection, common_reference, source_count, Course, Fits, FitsPiece, stretch_of, stretches_of, IsContradicted, IsObservedIn, IsOfHull, IsRefusedByHull, IsTraceable, IsTraceableByPieces, IsWithin, IsWithinNanoseconds, verdict_of, Verdict, Why, Contradiction, certificate_read, claim_read, Outcome, RunFault, Memory, Report, refused, whole_text, Style, Plain, Findings, check_text}
use Rattle.checker.specs.declared.verdict.Verdict.TheVariants as verdicts
use Rattle.cover_checker.specs.declared.verdict.CoverVerdict.TheVariants as covers
use Rattle.report.specs.declared.fault.Outcome.TheVariants as outcomes
use Rattle.audit.specs.CaptureInput.{capture_read}
use Rattle.audit.specs.Evidence.{EvidenceData, GiveEvidence, OfClaimAndCapture, samples_in}
use Rattle.audit.specs.Headline.{IsShown}
use Rattle.audit.specs.HeadlineByCovers.{IsShownByCovers}
use Rattle.audit.specs.Question.{ByOutcome, Finding, QuestionData, no_finding}
use Rattle.audit.specs.Second.{SecondData, certificate_said}

-- the outcome of a verdict
abbrev pub outcome_of : AnyVerdict → Outcome
outcome_of (OfPieces verdicts.Yes) = outcomes.Yes
outcome_of (OfPieces (verdicts.No piece why)) = outcomes.No
outcome_of (ByCovers covers.Yes) = outcomes.Yes
outcome_of (ByCovers verdict) = outcomes.No

-- the verdict on a certificate of pieces and the samples of a capture
abbrev pub verdict_on : CertificateData → EvidenceData → Verdict
verdict_on certificate e = verdict_of (samples_in e) e.claim certificate

-- on one by covers and the exchanges
abbrev pub cover_verdict_on : CoverCertificateData → EvidenceData → CoverVerdict
cover_verdict_on certificate e = cover_verdict_of e.claim e.collection.exchanges certificate

-- on one of either form
abbrev pub any_verdict_on : AnyData → EvidenceData → AnyVerdict
any_verdict_on (of_pieces certificate) e = OfPieces (verdict_on certificate e)
any_verdict_on (by_covers certificate) e = ByCovers (cover_verdict_on certificate e)

-- how many pieces it has
abbrev pub pieces_of : AnyData → ℕ
pieces_of (of_pieces certificate) = length certificate.pieces
pieces_of (by_covers certificate) = piece_count certificate

-- what is told of it before the verdict: of one by covers its conflicts and cases
abbrev pub covers_told : Style → AnyData → EvidenceData → List ℕ
covers_told style (of_pieces certificate) e = []
covers_told style (by_covers certificate) e =
    covers_text style e.claim e.collection.exchanges certificate

-- what is calculated for the report beside the counts: how many groups and how many servers with
-- an exchange there are, the one reference identifier, how many pieces, and the verdict; and
-- whether any course fits, if that is told
abbrev pub findings_on : AnyData → EvidenceData → Option Bool → Findings
findings_on certificate e fits = record {
  groups = group_count e.claim.groups;
  sources = source_count e.collection.exchanges (length e.claim.servers);
  reference = common_reference e.collection.exchanges;
  pieces = pieces_of certificate;
  fits = fits;
  verdict = any_verdict_on certificate e;
}

-- whether any course fits, if that is told in this style: a person is told, so it has to be known
abbrev pub fits_told : Style → Option Bool → Option (Option Bool)
fits_told Plain found = Some None
fits_told style None = None
fits_told style (Some fits) = Some (Some fits)

-- the text, with what was found and what stands about the inputs
abbrev pub text_on : Style → AnyData → EvidenceData → Findings → List ℕ → List ℕ
text_on style certificate e findings about = check_text style e.claim e.collection findings
    (covers_told style certificate e) about

-- the report of `check` on a certificate, a claim and the exchanges of a capture, with what stands
-- about the inputs; nothing else is checked
abbrev pub report_on : Style → List ℕ → Option (Option Bool) → SecondData → EvidenceData → Report
report_on style about (Some fits) (certificate_said certificate) e =
    whole_text (text_on style certificate e (findings_on certificate e fits) about)
    (outcome_of (any_verdict_on certificate e))
report_on style about fits said e = refused Memory

-- what was found of whether any course fits
abbrev pub fit_finding : Option Bool → Finding
fit_finding found = record no_finding { fits = found }

-- What was found is enough for a text in this style.
abbrev pub IsEnoughFor : Style → Option Bool → Type 0
IsEnoughFor style found = IsSome (fits_told style found)

-- The verdict is yes. So the error is within the bound in every course of events that fits the
-- exchanges, and piece by piece in every one that fits what the piece names of them.
pub record HasVerdictYes (certificate : CertificateData) (e : EvidenceData) : Type 0 where
  pub verdict_is : verdict_on certificate e ≡ verdicts.Yes
  pub whole : IsTraceable e.claim (samples_in e)
  pub by_pieces : IsTraceableByPieces e.claim (samples_in e) certificate

-- The verdict is no, for a piece and a reason, which the report names. If the piece contradicts
-- itself, no course of events that fits the exchanges has its reading there. If the reason is its
-- hull, the error lies in that hull, in every course that fits what the piece names.
pub record HasVerdictNo (certificate : CertificateData) (e : EvidenceData) : Type 0 where
  pub piece : ℕ
  pub why : Why
  pub verdict_is : verdict_on certificate e ≡ verdicts.No piece why
  pub contradiction : why ≡ Contradiction →
      IsSomeAnd (slice_get (stretches_of e.claim certificate) piece)
      (IsContradicted e.claim (samples_in e))
  pub held : IsOfHull why → IsRefusedByHull e.claim (samples_in e) certificate piece why

-- A certificate by covers is accepted. So the error is within the bound in every course of events
-- that fits the exchanges, and in every one that fits what it names of them.
pub record IsYesByCovers (certificate : CoverCertificateData) (e : EvidenceData) : Type 0 where
  pub accepted : IsAcceptedByCovers e.claim e.collection.exchanges certificate
  pub whole : IsTraceableToAll e.claim e.collection.exchanges
  pub named : IsTraceableByCovers e.claim e.collection.exchanges certificate

-- The verdict on it is no, for the first test that fails, which the report names.
pub record IsNoByCovers (certificate : CoverCertificateData) (e : EvidenceData) : Type 0 where
  pub verdict : CoverVerdict
  pub verdict_is : cover_verdict_on certificate e ≡ verdict
  pub is : IsCoverVerdict e.claim e.collection.exchanges certificate verdict
  pub no_yes : verdict ≢ covers.Yes

-- the same of a certificate of either form
abbrev pub IsYesOn : AnyData → EvidenceData → Type 0
IsYesOn (of_pieces certificate) = HasVerdictYes certificate
IsYesOn (by_covers certificate) = IsYesByCovers certificate

abbrev pub IsNoOn : AnyData → EvidenceData → Type 0
IsNoOn (of_pieces certificate) = HasVerdictNo certificate
IsNoOn (by_covers certificate) = IsNoByCovers certificate

-- In every course of events that fits the exchanges of a capture's bytes, under the claim of a
-- claim's bytes, the error of the client's clock is within the claimed bound at every moment whose
-- reading lies in the claimed span: within the bound in ticks, and so in nanoseconds.
pub record IsTracedTo (claim_bytes capture_bytes : List ℕ) : Type 0 where
  pub claim : ClaimData
  pub collection : Collection
  pub claim_is : claim_read claim_bytes ≡ Ok claim
  pub collection_is : capture_read claim capture_bytes ≡ Ok collection
  pub within : (course : Course) → Fits claim collection.exchanges course
      → IsObservedIn course claim.first claim.last → IsWithin course claim.bound
  pub in_nanoseconds : (course : Course) → Fits claim collection.exchanges course
      → IsObservedIn course claim.first claim.last → IsWithinNanoseconds course claim.bound_ns

-- The same piece by piece, of a certificate that is accepted: in every course that fits what a
-- piece names of these exchanges, the error is within the bound at every moment whose reading lies
-- in the piece.
pub record ArePiecesTraced (certificate : CertificateData) (e : EvidenceData) : Type 0 where
  pub accepted : verdict_on certificate e ≡ verdicts.Yes
  pub within : (k : ℕ) (piece : PieceData) (course : Course)
      → slice_get certificate.pieces k ≡ Some piece
      → FitsPiece e.claim e.collection.exchanges piece.entries course
      → let stretch = stretch_of e.claim certificate k piece in
      IsObservedIn course stretch.begin stretch.end
      → IsWithinNanoseconds course e.claim.bound_ns

-- The same of what a certificate by covers names, which is accepted: in every course that fits
-- that, the error is within the bound at every moment whose reading lies in the span.
pub record AreCoversTraced (certificate : CoverCertificateData) (e : EvidenceData) : Type 0 where
  pub accepted : IsAcceptedByCovers e.claim e.collection.exchanges certificate
  pub within : (course : Course)
      → FitsNamed e.claim e.collection.exchanges (IsNamed e.claim certificate course) course
      → IsObservedIn course e.claim.first e.claim.last
      → IsWithinNanoseconds course e.claim.bound_ns

-- of a certificate of either form
abbrev pub AreNamedTraced : AnyData → EvidenceData → Type 0
AreNamedTraced (of_pieces certificate) = ArePiecesTraced certificate
AreNamedTraced (by_covers certificate) = AreCoversTraced certificate

-- what it shows in relations alone
abbrev pub ShowsInRelations : AnyData → List ℕ → List ℕ → Type 0
ShowsInRelations (of_pieces certificate) = IsShown
ShowsInRelations (by_covers certificate) = IsShownByCovers

-- A second input, the one that its bytes say if they are known, and the evidence that the bytes of
-- claim and capture give are such that this holds of them.
pub record GiveSecond {T : Type 0} (read : List ℕ → Result T RunFault)
    (P : T → EvidenceData → Type 0) (second : Option (List ℕ)) (claim capture : List ℕ)
    : Type 0 where
  pub said : T
  pub said_is : IfSome second (λ bytes. read bytes ≡ Ok said)
  pub evidence : GiveEvidence (P said) claim capture

-- The second input's bytes, if they are known, say a certificate that shows this of the others.
pub record IsShownAs (second : Option (List ℕ)) (claim capture : List ℕ) : Type 0 where
  pub certificate : AnyData
  pub said_is : IfSome second (λ bytes. certificate_read bytes ≡ Ok certificate)
  pub shown : ShowsInRelations certificate claim capture

-- The bytes of claim, certificate and capture give what is named and of which this holds.
abbrev pub IsTracedByPieces : List ℕ → List ℕ → List ℕ → Type 0
IsTracedByPieces claim certificate =
    GiveSecond certificate_read AreNamedTraced (Some certificate) claim

-- They give a verdict of no.
abbrev pub IsDenied : List ℕ → List ℕ → List ℕ → Type 0
IsDenied claim certificate = GiveSecond certificate_read IsNoOn (Some certificate) claim

-- The clock is traced to UTC by the bytes of claim and capture, and by what those of the
-- certificate name. And it is said in relations alone, of a capture that is bytes: numbers below
-- 256.
pub record IsTracedFrom (second : Option (List ℕ)) (claim capture : List ℕ) : Type 0 where
  pub whole : IsTracedTo claim capture
  pub shown : IsBytes capture → IsShownAs second claim capture
  pub by_pieces : GiveSecond certificate_read AreNamedTraced second claim capture

-- So it is at a yes, if the bytes of claim and capture are known.
abbrev pub IsTraced : FeedState → FeedState → FeedState → Type 0
IsTraced claim second capture = OfClaimAndCapture claim capture (IsTracedFrom second.remaining)

-- At a no the verdict is no, if these bytes are known.
abbrev pub IsNotTraced : FeedState → FeedState → FeedState → Type 0
IsNotTraced claim second capture =
    OfClaimAndCapture claim capture (GiveSecond certificate_read IsNoOn second.remaining)

-- what the outcome of a verdict shows of evidence
abbrev pub HasVerdict : AnyData → EvidenceData → Outcome → Type 0
HasVerdict certificate e = ByOutcome (IsYesOn certificate e) (IsNoOn certificate e)

-- does a certificate show the claim? A person is told this about the inputs.
abbrev pub check : List ℕ → QuestionData
check about = record {
  report = λ style finding. report_on style about (fits_told style finding.fits);
  Shows = λ claim second capture.
      ByOutcome (IsTraced claim second capture) (IsNotTraced claim second capture);
}
