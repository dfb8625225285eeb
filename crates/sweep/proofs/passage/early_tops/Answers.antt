use Rattle.sweep.proofs.Common.{◌<◌, ℕ, subst, slice_get_within, seen, AreEarlyTops}
use Rattle.std.proofs.lemmas.Result.{IfOk-weaker}
use Rattle.sweep.proofs.ArrivalOrder.{length_seen}
use Rattle.sweep.proofs.PassageLevels.{AreEarlyTops-queue}
use Rattle.sweep.proofs.passage.early_tops.Goals as goal

pub tops_over-requires-clause-within : goal.tops_over-requires-clause-within
tops_over-requires-clause-within c =
    rw c.as_slice.ensures.value
    (λ i a at. let of = c.in_ok-queue.ensures.each i a at in
    subst (λ (n : ℕ). a.index < n) (length_seen c.args.backwards c.args.extremes.now)
    (slice_get_within (seen c.args.backwards c.args.extremes.now) a.index of.extreme of.stands))

pub returns : goal.returns
returns c =
    let extremes = seen c.args.backwards c.args.extremes.now in
    IfOk-weaker c.tops_over.result _
    (λ tops. AreEarlyTops c.args.drift_ppb extremes c.args.stretches.now tops.items)
    (λ tops are. AreEarlyTops-queue c.args.drift_ppb extremes c.in_ok-queue.queue.items c.in_ok-queue.ensures
    c.args.stretches.now tops.items (rw c.as_slice.ensures.value at are))
    c.tops_over.ensures
