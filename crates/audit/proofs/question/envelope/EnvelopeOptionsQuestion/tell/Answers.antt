use Rattle.audit.proofs.Common.{◌∙◌, Bool, sym, ap, refl, IsEnvelopeOf, evidence_data, least_line_of, samples_in}
use Rattle.audit.proofs.EnvelopeShowing.{envelope_shows}
use Rattle.audit.proofs.Showing.{of_evidence, told_whole}
use Rattle.audit.proofs.question.envelope.EnvelopeOptionsQuestion.tell.Goals as goal

pub returns : goal.returns
returns g c =
    let e = evidence_data c.args.evidence.now in
    let asked = c.args.self in
    let found = c.args.found.now in
    let line_is = ap (λ (b : Bool). least_line_of e.claim asked.step.seconds b found.least)
    (sym c.requires.found.asked_is) ∙ c.line_on-line.ensures in
    told_whole (rw (c.requires.found.finds.exact, line_is, c.outcome_of.ensures) refl)
    (of_evidence (IsEnvelopeOf asked.step.seconds c.outcome_of.result) e
    (rw c.outcome_of.ensures (envelope_shows asked.step.seconds e
    (λ stretch. c.best_hulls_hold_the_error.ensures e.claim (samples_in e) stretch c.requires.evidence.claim
    c.samples_of-samples.ensures.of_claim) found.envelope c.requires.found.finds)))
    (c.publish_text.ensures _ (rw c.samples_of-samples.ensures.samples at c.envelope_text-text.ensures))
