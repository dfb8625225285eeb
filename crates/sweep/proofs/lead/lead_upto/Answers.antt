use Rattle.sweep.proofs.Common.{◌≡◌, ◌≤◌, get_or, Some, arith, slice_get, slice_get-get_or, slice_get_within, Arrival}
use Rattle.sweep.proofs.List.{below_next}
use Rattle.sweep.proofs.PassageLevels.{IsLead-more}
use Rattle.sweep.proofs.lead.lead_upto.Goals as goal

none : Arrival
none = record { at = 0; height = 0; index = 0 }

pub loop-next-preserved : goal.loop-next-preserved
unfolding none
loop-next-preserved c =
    let queue = c.args.queue.now in
    let next = c.loop-next.next in
    let a : Arrival = get_or queue next none in
    let here : slice_get queue next ≡ Some a = slice_get-get_or queue next none c.loop-next-test.true in
    record {
      no_fewer = omega arith;
      within = omega arith;
      upto = below_next (λ i x. x.at ≤ c.args.place) queue next a here c.loop-next.invariant.upto c.if-queue-next.true;
      leads = IsLead-more queue next c.loop-next.lead c.lead_after.result c.loop-next.invariant.leads a here
          c.lead_after.ensures.higher c.lead_after.ensures.no_higher;
    }

pub returns-else-queue-next-clause-upto : goal.returns-else-queue-next-clause-upto
unfolding none
returns-else-queue-next-clause-upto c =
    let queue = c.args.queue.now in
    let next = c.loop-next.next in
    let b : Arrival = get_or queue next none in
    let here : slice_get queue next ≡ Some b = slice_get-get_or queue next none c.loop-next-test.true in
    record {
      within = c.loop-next.invariant.within;
      upto = c.loop-next.invariant.upto;
      beyond = λ i x le at.
          omega (arith, c.requires.in_order next i b x le here at);
    }

pub returns-after-loop-next-clause-upto : goal.returns-after-loop-next-clause-upto
returns-after-loop-next-clause-upto c = record {
  within = c.loop-next.invariant.within;
  upto = c.loop-next.invariant.upto;
  beyond = λ i x le at.
      let within = slice_get_within c.args.queue.now i x at in
      absurd (omega arith);
}
