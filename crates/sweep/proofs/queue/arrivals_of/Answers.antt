use Rattle.sweep.proofs.Common.{ℕ, Some, subst, sym, ◌∙◌, ap, slice_get-get_or, seen, index_at}
use Rattle.sweep.proofs.ArrivalOrder.{ArrivalsSoFar, ArrivalsSoFar-more, arrival_here, seen_at, length_seen}
use Rattle.sweep.proofs.queue.arrivals_of.Goals as goal

pub loop-turn-preserved : goal.loop-turn-preserved
loop-turn-preserved c =
    let backwards = c.args.backwards in
    let extremes = seen backwards c.args.extremes.now in
    let turn = c.loop-turn.turn in
    let index = c.index_at-index.result in
    subst (ArrivalsSoFar c.args.drift_ppb backwards extremes _) (sym c.in_ok-push.ensures.items)
    (ArrivalsSoFar-more c.args.drift_ppb backwards extremes turn c.loop-turn.arrivals.items _ c.loop-turn.invariant
    (arrival_here c.args.drift_ppb c.from-rate.result _ index extremes c.seen-extreme.result c.requires.rate
    c.from-rate.ensures
    (c.index_at-index.ensures.is
    ∙ ap (λ (n : ℕ). index_at backwards n turn) (sym (length_seen backwards c.args.extremes.now)))
    (seen_at backwards c.args.extremes.now index _
    (slice_get-get_or c.args.extremes.now index _ c.index_at-index.ensures.within)
    ∙ ap Some (sym c.seen-extreme.ensures.is))
    c.seen-extreme.ensures.lawful))
