use Rattle.audit.proofs.Common.{are_samples, evidence_data}
use Rattle.audit.specs.Reading.{ticks_asked}
use Rattle.audit.proofs.OrderShowing.{is_after, told_after}
use Rattle.audit.proofs.question.order.tell_after.Goals as goal

pub returns-in-Ok : goal.returns-in-Ok
returns-in-Ok g c =
    let e = evidence_data c.args.evidence.now in
    let evidence = c.requires.evidence in
    let samples = are_samples e.collection.exchanges e.claim evidence.claim evidence.exchanges.each in
    let second = c.args.asked.second in
    told_after _ _ _ _ _ e c.outcome_of.ensures (c.publish_text.ensures _ c.order_text-text.ensures)
    second.begin second.end c.in-Ok.ensures c.order_of-order.ensures.exact
    (is_after c.moments_hold.ensures.hold c.orders_are_so.ensures.so c.args.asked.first
    (ticks_asked second.begin second.end) e evidence.claim samples)
