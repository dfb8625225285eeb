-- The report of `at` for one reading: what each server says about the clock's error over the ticks
-- for which the clock showed it, the hull over the groups, and when that was.
use Rattle.std.specs.Prelude.{ℕ, ◌++◌, List, max, pos}
use Rattle.audit.specs.Common.{FeedState, HoldsError, HoldsTrueTime, Hull, Part, ReadingData, Style, Yes, parts_of, parts_text, piece_hull, reading_over, stretch_over, true_text, whole_text}
use Rattle.audit.specs.Evidence.{EvidenceData, GiveEvidence, OfClaimAndCapture, samples_in}
use Rattle.audit.specs.Question.{QuestionData}

-- the reading of these ticks: the first alone, if the last is less
abbrev pub ticks_asked : ℕ → ℕ → ReadingData
ticks_asked begin end = reading_over begin (max begin end)

-- what each server says over these ticks
abbrev pub parts_over : ReadingData → EvidenceData → List Part
parts_over r e = parts_of (samples_in e) e.claim r

-- the hull that is shown
abbrev pub hull_over : ReadingData → EvidenceData → Hull
hull_over r e = piece_hull e.claim.groups e.claim.false_max (parts_over r e)

-- the whole text for a reading: what these servers say, with the hull over the groups, and then
-- when it was
abbrev pub reading_text : Style → ReadingData → EvidenceData → List ℕ
reading_text style r e =
    parts_text style e.claim (parts_over r e) (hull_over r e) ++ true_text style r (hull_over r e)

-- In every course of events that fits the exchanges, whenever the clock shows a reading of these
-- ticks, its error lies in that hull, and true time between the two that are shown. An unbounded
-- hull says nothing, and an empty one that no course that fits has such a moment.
pub record IsToldOf (r : ReadingData) (e : EvidenceData) : Type 0 where
  pub error : HoldsError e.claim (samples_in e) (stretch_over (pos r.begin) (pos r.end))
      (hull_over r e)
  pub time : HoldsTrueTime e.claim (samples_in e) r (hull_over r e)

-- The bytes of claim and capture give evidence for which that holds, if they are known.
abbrev pub ShowReading : ReadingData → FeedState → FeedState → Type 0
ShowReading r claim capture = OfClaimAndCapture claim capture (GiveEvidence (IsToldOf r))

-- what does each server say while the clock shows a reading of these ticks, and when was that?
abbrev pub at_reading : ℕ → ℕ → QuestionData
at_reading begin end = record {
  report = λ style finding said e. whole_text (reading_text style (ticks_asked begin end) e) Yes;
  Shows = λ claim second capture outcome. ShowReading (ticks_asked begin end) claim capture;
}
