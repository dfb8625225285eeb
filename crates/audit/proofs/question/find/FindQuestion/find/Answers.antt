use Rattle.audit.proofs.Common.{refl, evidence_data, found_report, no_finding}
use Rattle.audit.proofs.Showing.{nothing_found, unfound_as}
use Rattle.audit.proofs.question.find.FindQuestion.find.Goals as goal

pub returns-in-Err-clause-fault : goal.returns-in-Err-clause-fault
returns-in-Err-clause-fault c =
    let e = evidence_data c.args.evidence.now in
    rw c.run_fault_of.ensures (unfound_as _ _ no_finding (λ style. found_report style c.args.self.step.seconds e.claim)
    _ c.in-Err.fault (rw c.samples_of.ensures.samples at c.in-Err.ensures.exact) (nothing_found e) (λ style. refl)
    (λ style. refl))
