use Rattle.audit.proofs.Common.{are_samples, evidence_data, samples_in}
use Rattle.audit.specs.Reading.{ticks_asked}
use Rattle.audit.proofs.OrderShowing.{told_within}
use Rattle.audit.proofs.question.order.tell_within.Goals as goal

pub returns-in-Ok : goal.returns-in-Ok
returns-in-Ok g c =
    let e = evidence_data c.args.evidence.now in
    let evidence = c.requires.evidence in
    let samples = are_samples e.collection.exchanges e.claim evidence.claim evidence.exchanges.each in
    let r = ticks_asked c.args.asked.first.begin c.args.asked.first.end in
    let r' = ticks_asked c.args.asked.second.begin c.args.asked.second.end in
    told_within _ _ _ _ _ e c.outcome_of.ensures (c.publish_text.ensures _ c.order_text-text.ensures) r r'
    c.in-Ok.ensures.first c.in-Ok.ensures.second c.order_in-order.ensures.exact
    (c.readings_tell_the_order.ensures.holds e.claim (samples_in e) r r' evidence.claim samples)
