-- How texts go their way to a sink.
use Rattle.report.proofs.Common.{◌≡◌, ◌++◌, ◌+◌, ◌<◌, ℕ, List, [], ◌∷◌, Option, Ok, append_assoc, length, take, length-append, arith, append-nil, concat-append, take-append-add, Appends-trans, Appends, Write, OutputState, HasPut, StopsIn, Puts, IsReady, with_text}

-- all that was gathered goes out
pub put_flushed : (before : Option (List ℕ)) (old new : OutputState) (texts : List (List ℕ)) → HasPut before old texts →
    Appends old.sink.contents new.sink.contents old.gathered → new.gathered ≡ [] →
    new.sent ≡ old.sent + length old.gathered → HasPut before new (texts ++ [])
put_flushed before old new texts p went empty count = grind (arith, concat-append, length-append, Appends-trans)

-- the sink fails in what was gathered
pub put_stopped : (before : Option (List ℕ)) (old : OutputState) (after : Option (List ℕ)) (texts : List (List ℕ))
    (k : ℕ) → HasPut before old texts → k < length old.gathered →
    Appends old.sink.contents after (take k old.gathered) → StopsIn texts before after (Write (old.sent + k))
put_stopped before old after texts k p short went =
    grind (arith, concat-append, take-append-add, length-append, Appends-trans)

-- a text is gathered after a call that put nothing
pub puts_one : (old mid new : OutputState) (text : List ℕ) → new ≡ with_text mid text → Puts old mid [] (Ok tt) →
    Puts old new (text ∷ []) (Ok tt)
puts_one old mid new text gathers p = grind (arith, append-nil, append_assoc, concat-append, length-append)

-- a call that does nothing puts nothing
pub puts_none : (o : OutputState) → IsReady o → Puts o o [] (Ok tt)
puts_none o ready = grind (arith, append-nil)
