use Rattle.sweep.proofs.Common.{◌≡◌, Some, get_or, arith, slice_get, slice_get-get_or, Option, IsTopOf, Reaches, Top, UnsignedStretch}
use Rattle.sweep.proofs.List.{AreOver-more}
use Rattle.sweep.proofs.passage.tops_over.Goals as goal

pub loop-k-init : goal.loop-k-init
loop-k-init c = grind arith

pub lead_upto-next-requires-clause-upto : goal.lead_upto-next-requires-clause-upto
lead_upto-next-requires-clause-upto c i a less at =
    c.loop-k.invariant.upto i a c.loop-k.k _ less at (omega arith)
    (slice_get-get_or c.args.stretches.now c.loop-k.k _ c.loop-k-test.true)

pub loop-k-preserved : goal.loop-k-preserved
loop-k-preserved c =
    let queue = c.args.queue.now in
    let stretches = c.args.stretches.now in
    let k = c.loop-k.k in
    let none : UnsignedStretch = record { begin = 0; end = 0 } in
    let stretch : UnsignedStretch = get_or stretches k none in
    let here : slice_get stretches k ≡ Some stretch = slice_get-get_or stretches k none c.loop-k-test.true in
    let upto = c.lead_upto-next.ensures.upto in
    let holds : UnsignedStretch → Option Top → Type 0 =
    λ s. IsTopOf (Reaches c.args.drift_ppb queue s) in
    record {
      so_far =
          rw c.in_ok-push.ensures.items
          (AreOver-more holds stretches k c.loop-k.tops.items c.loop-k.invariant.so_far stretch here
          c.top_over-top.result c.top_over-top.ensures.top);
      within = upto.within;
      leads = c.lead_upto-next.ensures.leads;
      upto = λ i a j other less at le there.
          omega (arith, c.requires.in_order k j stretch other (omega arith) here there, upto.upto i a less at);
      taken = c.top_over-top.ensures.taken;
      are = c.top_over-top.ensures.are;
    }
