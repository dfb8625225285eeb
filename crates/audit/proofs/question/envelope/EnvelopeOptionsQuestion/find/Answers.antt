use Rattle.audit.proofs.Common.{None, refl, evidence_data, least_line_of, no_finding}
use Rattle.audit.specs.Envelope.{report_of}
use Rattle.audit.proofs.Showing.{nothing_found, unfound_as}
use Rattle.audit.proofs.question.envelope.EnvelopeOptionsQuestion.find.Goals as goal

pub returns-in-Err-clause-fault : goal.returns-in-Err-clause-fault
returns-in-Err-clause-fault c =
    let e = evidence_data c.args.evidence.now in
    let asked = c.args.self in
    rw c.run_fault_of.ensures (unfound_as _ _ no_finding (λ style found.
    report_of style asked e found (least_line_of e.claim asked.step.seconds asked.least None)) _ c.in-Err.fault
    (rw c.samples_of.ensures.samples at c.in-Err.ensures.exact) (nothing_found e) (λ style. refl) (λ style. refl))
