use Rattle.audit.proofs.Common.{refl, are_samples, evidence_data, samples_in}
use Rattle.audit.specs.At.{HullHoldsErrorAt, stretch_at}
use Rattle.audit.proofs.Showing.{of_evidence, told_whole}
use Rattle.audit.proofs.question.at.tell.Goals as goal

pub returns : goal.returns
returns g c =
    let e = evidence_data c.args.evidence.now in
    let unix_second = c.args.asked.unix_second in
    told_whole refl
    (of_evidence (HullHoldsErrorAt unix_second) e
    (c.hulls_hold_the_error.ensures.best e.claim (samples_in e) (stretch_at unix_second)
    c.requires.evidence.claim
    (are_samples e.collection.exchanges e.claim c.requires.evidence.claim c.requires.evidence.exchanges.each)))
    (c.publish_text.ensures _ c.at_text-text.ensures)
