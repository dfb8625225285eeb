use Rattle.sweep.proofs.Common.{◌≡◌, ◌<◌, ◌-◌, refl, List, Some, length, arith, subst, sym, ap, ◌∙◌, true≢false, slice_get, slice_get-get_or, seen, PrefixMaximum}
use Rattle.sweep.proofs.MaximumList.{MaximaSoFar-kept, MaximaSoFar-more, AreMaximaOf-all}
use Rattle.sweep.proofs.prefix_maximum.maxima_of.Goals as goal
use Rattle.sweep.proofs.prefix_maximum.maxima_of.Goals.{then-is_higher+in_ok-push, else-is_higher}

pub loop-turn-init : goal.loop-turn-init
loop-turn-init c = grind arith

pub loop-turn-preserved : goal.loop-turn-preserved
loop-turn-preserved c =
    let queue = c.in_ok-queue.queue.items in
    let turn = c.loop-turn.turn in
    let maxima = c.loop-turn.maxima.items in
    let arrival = c.index-arrival.result.now in
    let within : turn < length queue = omega arith in
    let here : slice_get queue turn ≡ Some arrival =
    slice_get-get_or queue turn arrival within ∙ ap Some (sym c.index-arrival.ensures) in
    let passed = c.as_slice.ensures.value in
    elim c.if-is_higher.branch [
      | then-is_higher+in_ok-push w ↦
          rw (w.maxima-is, w.in_ok-push.ensures.items)
          (MaximaSoFar-more c.args.drift_ppb (seen c.args.backwards c.args.extremes.now) queue
          c.in_ok-queue.ensures turn maxima
          c.loop-turn.invariant arrival here _ refl refl
          (λ last at. c.is_higher.ensures.higher w.if-is_higher.true last
          (subst (λ (xs : List PrefixMaximum). slice_get xs (length xs - 1) ≡ Some last) (sym passed) at)))
      | else-is_higher w ↦
          let low = c.is_higher.ensures.no_higher (λ t. true≢false (sym t ∙ w.if-is_higher.false)) in
          rw w.maxima-is
          (MaximaSoFar-kept c.args.drift_ppb (seen c.args.backwards c.args.extremes.now) queue
          c.in_ok-queue.ensures turn maxima
          c.loop-turn.invariant arrival here low.0
          (subst (λ (xs : List PrefixMaximum). slice_get xs (length xs - 1) ≡ Some low.0) passed low.1) low.2)
    ]

pub returns : goal.returns
returns c =
    AreMaximaOf-all c.args.drift_ppb (seen c.args.backwards c.args.extremes.now) c.in_ok-queue.queue.items
    c.in_ok-queue.ensures c.loop-turn.turn
    c.loop-turn.maxima.items (omega arith) c.loop-turn.invariant
