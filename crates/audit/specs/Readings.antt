-- The report of `at` for many readings: of each the hull of the clock's error, and when it was.
use Rattle.std.specs.Prelude.{List, All}
use Rattle.audit.specs.Common.{FeedState, HoldsTrueTime, ReadingData, Report, Style, Yes, Memory, hull_of, readings_text, refused, times_read, whole_text}
use Rattle.audit.specs.Check.{GiveSecond}
use Rattle.audit.specs.Evidence.{EvidenceData, OfClaimAndCapture, samples_in}
use Rattle.audit.specs.Question.{QuestionData}
use Rattle.audit.specs.Second.{SecondData, times_said}

-- the report on readings
abbrev pub readings_report : Style → SecondData → EvidenceData → Report
readings_report style (times_said readings) e =
    whole_text (readings_text style (samples_in e) e.claim readings) Yes
readings_report style said e = refused Memory

-- In every course of events that fits the exchanges, whenever the clock shows one of these
-- readings, true time lies between the two that its line has.
abbrev pub HoldTrueTime : List ReadingData → EvidenceData → Type 0
HoldTrueTime readings e =
    All (λ r. HoldsTrueTime e.claim (samples_in e) r (hull_of (samples_in e) e.claim r)) readings

-- The bytes of claim and capture give evidence, and those of the file readings, for which that
-- holds, if they are known.
abbrev pub ShowTrueTime : FeedState → FeedState → FeedState → Type 0
ShowTrueTime claim second capture =
    OfClaimAndCapture claim capture (GiveSecond times_read HoldTrueTime second.remaining)

-- when was it that the clock showed these readings?
abbrev pub readings : QuestionData
readings = record {
  report = λ style finding said e. readings_report style said e;
  Shows = λ claim second capture outcome. ShowTrueTime claim second capture;
}
