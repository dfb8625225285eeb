-- What an order shows, from the bytes of the inputs.
use Rattle.audit.proofs.Common.{◌≡◌, ℕ, ℤ, List, ClaimData, EvidenceData, AreInputsOf, Outcome, SinkState, Style, FeedState, RunFault, Result, TellsOf, refl, no_second, nothing_said, samples_in, whole_text}
use Rattle.audit.specs.Common.{AreSamplesOf, HoldsOrderOfOne, HoldsWhen, IsDuring, IsLawful, IsSo, Order, ReadingData, Sample, When, order_of, order_text, when_at}
use Rattle.audit.specs.Order.{GiveOrder, IsOrderAfter, IsOrderWithin, order_after, order_in, order_outcome, order_within, when_in}
use Rattle.audit.specs.Question.{ShowsOf}
use Rattle.audit.specs.Reading.{ticks_asked}
use Rattle.audit.specs.Report.{TellsAlone}
use Rattle.audit.proofs.Showing.{of_evidence, told_whole}

-- what an order that is given shows
shows_order : (IsOrder : Order → EvidenceData → Type 0) (order : Order) (e : EvidenceData) → IsOrder order e
    → (outcome : Outcome) → order_outcome order ≡ outcome → (claim second capture : FeedState)
    → AreInputsOf no_second nothing_said e claim second capture → GiveOrder IsOrder outcome claim capture
shows_order IsOrder order e holds outcome is claim second capture are = record {
  order = order;
  outcome_is = is;
  given = of_evidence (IsOrder order) e holds claim second capture are;
}

-- the order after a reading that was then
pub is_after : ((claim : ClaimData) (samples : List Sample) (r : ReadingData) → IsLawful claim
    → AreSamplesOf claim samples → HoldsWhen claim samples r (when_at samples claim r))
    → ((first second : When) (n n' : ℕ) (time time' : ℤ) → IsDuring first n time → IsDuring second n' time'
    → IsSo (order_of first second) n n' time time')
    → (first : When) (r : ReadingData) (e : EvidenceData) → IsLawful e.claim → AreSamplesOf e.claim (samples_in e)
    → IsOrderAfter first r (order_of first (when_in r e)) e
is_after held so first r e lawful of_claim = record {
  order_is = refl;
  so = λ n time xs course during same fits shown. so first (when_in r e) n course.fineness time course.observation.time
      during (held e.claim (samples_in e) r lawful of_claim xs course same fits shown);
}

pub shows_after : (first : When) (begin end : ℕ) (e : EvidenceData)
    → IsOrderAfter first (ticks_asked begin end) (order_of first (when_in (ticks_asked begin end) e)) e
    → ShowsOf (order_after first begin end) no_second nothing_said e
    (order_outcome (order_of first (when_in (ticks_asked begin end) e)))
shows_after first begin end e holds =
    let r = ticks_asked begin end in
    shows_order (IsOrderAfter first r) (order_of first (when_in r e)) e holds _ refl

pub shows_within : (r r' : ReadingData) (e : EvidenceData)
    → HoldsOrderOfOne e.claim (samples_in e) r r' (order_in r r' e)
    → ShowsOf (order_within r r') no_second nothing_said e (order_outcome (order_in r r' e))
shows_within r r' e holds =
    shows_order (IsOrderWithin r r') (order_in r r' e) e (record { order_is = refl; holds = holds }) _ refl

-- the text of an order that was made is told
module _ (style : Style) (first second : When) (order : Order) (outcome : Outcome) {before after : SinkState}
    {answer : Result Outcome RunFault} (e : EvidenceData) (outcome_is : outcome ≡ order_outcome order)
    (told : TellsOf (whole_text (order_text style first second order) outcome) (λ o. o ≡ outcome) before after answer)
  where
    pub told_after : (begin end : ℕ) → second ≡ when_in (ticks_asked begin end) e → order ≡ order_of first second
        → IsOrderAfter first (ticks_asked begin end) (order_of first (when_in (ticks_asked begin end) e)) e
        → TellsAlone (order_after first begin end) style e before after answer
    told_after begin end second_is order_is holds =
        told_whole (rw (outcome_is, order_is, second_is) refl)
        (rw (outcome_is, order_is, second_is) (shows_after first begin end e holds)) told

    pub told_within : (r r' : ReadingData) → first ≡ when_in r e → second ≡ when_in r' e → order ≡ order_in r r' e
        → HoldsOrderOfOne e.claim (samples_in e) r r' (order_in r r' e)
        → TellsAlone (order_within r r') style e before after answer
    told_within r r' first_is second_is order_is holds =
        told_whole (rw (outcome_is, order_is, first_is, second_is) refl)
        (rw (outcome_is, order_is) (shows_within r r' e holds)) told
