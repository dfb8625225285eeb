-- How a whole text goes out part by part, over a fresh output.
use Rattle.std.proofs.Common.{append-nil}
use Rattle.report.proofs.Common.{◌≡◌, ◌++◌, ◌<◌, ◌^◌, ℕ, List, [], ◌∷◌, Result, Ok, Err, arith, append_assoc, length-append, concat, take-append-le, concat-append, Appends-nil, SinkState, Outcome, RunFault, Closes, HasPut, IsReady, OutputState, Puts, fresh_output, put_count}
use Rattle.report.specs.Publication.{Publishes, PutsReady, Ready}

-- ---- while it goes out

-- The first parts of a text were put on a fresh output over this sink, and as much of it is left.
pub record IsGoing (text left : List ℕ) (before : SinkState) (now : OutputState) : Type 0 where
  pub ready : IsReady now
  pub faults : now.sink.faults ≡ before.faults
  pub texts : List (List ℕ)
  pub parted : text ≡ concat texts ++ left
  pub put : HasPut before.contents now texts

-- nothing was put yet
pub going_start : (text : List ℕ) (before : SinkState) (now : OutputState) → IsReady now →
    now ≡ fresh_output before → IsGoing text text before now
going_start text before now ready fresh = grind (arith, Appends-nil)

module _ {text left : List ℕ} {before : SinkState} {old new : OutputState} (going : IsGoing text left before old)
    (part : List ℕ) where
  -- one more part was put
  pub going_more : (rest : List ℕ) → left ≡ part ++ rest → Puts old new (part ∷ []) (Ok tt) →
      put_count new < 2 ^ 64 → IsGoing text rest before new
  going_more rest parted puts few =
      let put = puts.texts before.contents going.texts going.put in
      grind (arith, append_assoc, concat-append, append-nil)

  -- the sink failed in what was put before
  pub going_short : (outcome : Outcome) (fault : RunFault) → Puts old new (part ∷ []) (Err fault) →
      PutsReady (record { text = text; outcome = outcome }) before new (Err fault)
  going_short outcome fault puts =
      let stops = puts.texts before.contents going.texts going.put in
      grind (arith, take-append-le stops.sent (concat going.texts) left, length-append (concat going.texts) left)

-- all of it was put
pub going_done : {text : List ℕ} {before : SinkState} {now : OutputState} (outcome : Outcome) →
    IsGoing text [] before now → PutsReady (record { text = text; outcome = outcome }) before now (Ok outcome)
going_done outcome going = grind (arith, append-nil)

-- ---- once the output is closed

-- it is published, if the output began over this sink
pub publishes_over : {ready : Ready} {before : SinkState} {first now : OutputState} (after : SinkState)
    (ran answer : Result Outcome RunFault) → first ≡ fresh_output before → PutsReady ready first.sink now ran →
    Closes now after ran answer → Publishes before after (Ok ready) answer
publishes_over after ran answer fresh puts closes = grind arith
