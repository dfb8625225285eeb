-- The report of `envelope`: the hull of each piece, and the least bound that holds; and what it
-- says about every course of events.
use Rattle.std.specs.Prelude.{◌≡◌, ℕ, All, Option, Some, None, is_some, Result, Ok, Err}
use Rattle.audit.specs.Common.{HoldsError, IsContradicted, Empty, FindFault, LeastBound, EnvelopeData, IsLeast, envelope_of, FindsEnvelope, hull_at, count_of, Outcome, Yes, No, Memory, Report, refused, whole_text, Style, envelope_text, EnvelopeOptions, LeastLine}
use Rattle.finder.specs.declared.least.LeastBound.TheVariants.{Holds, NoneHolds}
use Rattle.audit.specs.Evidence.{EvidenceData, GiveEvidence, OfClaimAndCapture, samples_in}
use Rattle.audit.specs.Find.{find_run_fault_of}
use Rattle.audit.specs.Least.{least_line_of}
use Rattle.audit.specs.Question.{Finding, QuestionData, no_finding}
use Rattle.audit.specs.declared.question.envelope.EnvelopeFinding.{EnvelopeFinding}

-- the outcome: yes if a bound holds
abbrev pub bound_outcome : LeastBound → Outcome
bound_outcome (Holds n piece) = Yes
bound_outcome (NoneHolds piece) = No

-- the report on an envelope, as it is asked for, with this line of the least bound that a
-- certificate carries; none if no bound was looked for
abbrev pub report_of : Style → EnvelopeOptions → EvidenceData → Result EnvelopeData FindFault
    → Option LeastLine → Report
report_of style asked e (Ok envelope) (Some line) =
    whole_text (envelope_text style asked (samples_in e) e.claim envelope line)
    (bound_outcome envelope.least)
report_of style asked e (Ok envelope) None = refused Memory
report_of style asked e (Err fault) line = refused (find_run_fault_of fault)

-- the envelope of the samples of a capture, in pieces of this many seconds
abbrev pub envelope_in : ℕ → EvidenceData → Result EnvelopeData FindFault
envelope_in step e = envelope_of (samples_in e) e.claim step

-- This evidence has an envelope, with this outcome. In every course of events that fits the
-- exchanges, whenever the clock reads a time of a piece, its error lies in the piece's hull; if the
-- hull is empty, then in no such course does it read a time of that piece. The least bound is the
-- least inside which every hull lies, or there is none.
pub record IsEnvelopeOf (step : ℕ) (outcome : Outcome) (e : EvidenceData) : Type 0 where
  pub envelope : EnvelopeData
  pub envelope_is : envelope_in step e ≡ Ok envelope
  pub holds_error : All
      (λ piece. HoldsError e.claim (samples_in e) piece.stretch piece.hull) envelope.pieces
  pub empty : All
      (λ piece. piece.hull ≡ Empty → IsContradicted e.claim (samples_in e) piece.stretch)
      envelope.pieces
  pub bound : IsLeast (hull_at (samples_in e) e.claim step) (count_of e.claim step) envelope.least
  pub outcome_is : bound_outcome envelope.least ≡ outcome

-- what the report is on
abbrev pub envelope_finding : EnvelopeFinding → Finding
envelope_finding found = record no_finding { least = found.least }

-- This is the envelope of evidence, with a least bound if one is asked for.
pub record IsEnvelopeFor (asked : EnvelopeOptions) (e : EvidenceData) (found : EnvelopeFinding)
    : Type 0 where
  pub finds : FindsEnvelope (samples_in e) e.claim asked.step.seconds (Ok found.envelope)
  pub asked_is : is_some found.least ≡ asked.least

-- How far off may the clock have been, piece by piece? The bytes of claim and capture give evidence
-- with such an envelope, if they are known.
abbrev pub envelope : EnvelopeOptions → QuestionData
envelope asked = record {
  report = λ style finding said e.
      report_of style asked e (envelope_in asked.step.seconds e)
      (least_line_of e.claim asked.step.seconds asked.least finding.least);
  Shows = λ claim second capture outcome.
      OfClaimAndCapture claim capture (GiveEvidence (IsEnvelopeOf asked.step.seconds outcome));
}
