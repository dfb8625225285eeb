-- The report of `order`: which of two readings was first, and what that shows. The first reading is
-- of a clock of its own, of which it is known when it was; or both are of one clock.
use Rattle.std.specs.Prelude.{◌≡◌, ℕ, ℤ, pos, List}
use Rattle.audit.specs.Common.{Course, Exchange, FeedState, Fits, HoldsOrderOfOne, HoldsWhen, IsDuring, IsObservedIn, IsSo, No, Order, Outcome, ReadingData, Report, Style, When, Yes, order_of, order_of_one, order_text, samples_of, when_at, whole_text}
use Rattle.true_time.specs.declared.order.Order.TheVariants.{FirstBefore, Never, Open, SecondBefore, Unknown}
use Rattle.audit.specs.Evidence.{EvidenceData, GiveEvidence, OfClaimAndCapture, samples_in}
use Rattle.audit.specs.Question.{QuestionData}
use Rattle.audit.specs.Reading.{ticks_asked}

-- when the clock showed a reading
abbrev pub when_in : ReadingData → EvidenceData → When
when_in r e = when_at (samples_in e) e.claim r

-- In every course of events that fits the exchanges, it is then that the clock shows the reading.
pub record IsWhenIn (r : ReadingData) (when : When) (e : EvidenceData) : Type 0 where
  pub when_is : when ≡ when_in r e
  pub holds : HoldsWhen e.claim (samples_in e) r when

-- The bytes of claim and capture give evidence for which that holds, if they are known.
abbrev pub GiveWhen : ReadingData → When → FeedState → FeedState → Type 0
GiveWhen r when claim capture = OfClaimAndCapture claim capture (GiveEvidence (IsWhenIn r when))

-- This is the order of a reading of another clock, which was then, and of one of this clock. It
-- says so of every true time that is then, whatever its fineness, and of the true time in every
-- course of events that fits the exchanges and in which this clock shows its reading.
pub record IsOrderAfter (first : When) (r : ReadingData) (order : Order) (e : EvidenceData)
    : Type 0 where
  pub order_is : order ≡ order_of first (when_in r e)
  pub so : (n : ℕ) (time : ℤ) (xs : List Exchange) (course : Course) → IsDuring first n time
      → samples_in e ≡ samples_of xs e.claim → Fits e.claim xs course
      → IsObservedIn course (pos r.begin) (pos r.end)
      → IsSo order n course.fineness time course.observation.time

-- the order of two readings of one clock
abbrev pub order_in : ReadingData → ReadingData → EvidenceData → Order
order_in r r' e = order_of_one e.claim.drift_ppb r r' (order_of (when_in r e) (when_in r' e))

-- This is that order. It says so in every course of events that fits the exchanges and in which the
-- clock shows both.
pub record IsOrderWithin (r r' : ReadingData) (order : Order) (e : EvidenceData) : Type 0 where
  pub order_is : order ≡ order_in r r' e
  pub holds : HoldsOrderOfOne e.claim (samples_in e) r r' order

-- an order that is decided is a yes
abbrev pub order_outcome : Order → Outcome
order_outcome (FirstBefore ticks) = Yes
order_outcome (SecondBefore ticks) = Yes
order_outcome (Open earlier later) = No
order_outcome Unknown = No
order_outcome Never = No

-- the report on an order
abbrev pub order_report : Style → When → When → Order → Report
order_report style first second order =
    whole_text (order_text style first second order) (order_outcome order)

-- The bytes of claim and capture, if they are known, give evidence of which some order with this
-- outcome is what is asked for.
pub record GiveOrder (IsOrder : Order → EvidenceData → Type 0) (outcome : Outcome)
    (claim capture : FeedState) : Type 0 where
  pub order : Order
  pub outcome_is : order_outcome order ≡ outcome
  pub given : OfClaimAndCapture claim capture (GiveEvidence (IsOrder order))

-- which was first, a reading that was then or a reading of these ticks of this clock?
abbrev pub order_after : When → ℕ → ℕ → QuestionData
order_after first begin end = record {
  report = λ style finding said e.
      let second = when_in (ticks_asked begin end) e in
      order_report style first second (order_of first second);
  Shows = λ claim second capture outcome.
      GiveOrder (IsOrderAfter first (ticks_asked begin end)) outcome claim capture;
}

-- which was first, one reading of this clock or another?
abbrev pub order_within : ReadingData → ReadingData → QuestionData
order_within r r' = record {
  report = λ style finding said e.
      order_report style (when_in r e) (when_in r' e) (order_in r r' e);
  Shows = λ claim second capture outcome.
      GiveOrder (IsOrderWithin r r') outcome claim capture;
}
