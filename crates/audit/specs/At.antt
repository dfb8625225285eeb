-- The report of `at`: what each server says about the clock's error at one moment, and the hull
-- over the groups, which holds the error.
use Rattle.std.specs.Prelude.{ℕ, ◌*◌, ◌^◌, ℤ, pos, List}
use Rattle.audit.specs.Common.{FeedState, piece_hull, HoldsError, Stretch, Hull, best_parts, Yes, whole_text, Style, parts_text}
use Rattle.audit.specs.Evidence.{EvidenceData, GiveEvidence, OfClaimAndCapture, samples_in}
use Rattle.audit.specs.Question.{QuestionData}

-- the tick of 2^-32 s at which a Unix second begins
abbrev pub tick_of : ℕ → ℤ
tick_of unix_second = pos (unix_second * 2 ^ 32)

-- the hull that is shown
abbrev pub hull_at : ℕ → EvidenceData → Hull
hull_at unix_second e =
    piece_hull e.claim.groups e.claim.false_max
    (best_parts (samples_in e) e.claim (tick_of unix_second))

-- the whole text for a Unix second: what these servers say, with the hull over the groups
abbrev pub at_text : Style → ℕ → EvidenceData → List ℕ
at_text style unix_second e =
    parts_text style e.claim (best_parts (samples_in e) e.claim (tick_of unix_second))
    (hull_at unix_second e)

-- a Unix second's first tick, as a stretch of readings
abbrev pub stretch_at : ℕ → Stretch
stretch_at unix_second = record { begin = tick_of unix_second; end = tick_of unix_second }

-- In every course of events that fits the exchanges, the error lies in that hull at every moment
-- at which the clock reads the second's first tick. An unbounded hull says nothing, and an empty
-- one that no course that fits has such a moment.
abbrev pub HullHoldsErrorAt : ℕ → EvidenceData → Type 0
HullHoldsErrorAt unix_second e =
    HoldsError e.claim (samples_in e) (stretch_at unix_second) (hull_at unix_second e)

-- The bytes of claim and capture give evidence for which that holds, if they are known.
abbrev pub HullHoldsError : ℕ → FeedState → FeedState → Type 0
HullHoldsError unix_second claim capture =
    OfClaimAndCapture claim capture (GiveEvidence (HullHoldsErrorAt unix_second))

-- what does each server say about the clock at a Unix second?
abbrev pub at : ℕ → QuestionData
at unix_second = record {
  report = λ style finding said e. whole_text (at_text style unix_second e) Yes;
  Shows = λ claim second capture outcome. HullHoldsError unix_second claim capture;
}
