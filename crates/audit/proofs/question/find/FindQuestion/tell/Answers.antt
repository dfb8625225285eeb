use Rattle.audit.proofs.Common.{refl, IsSearchOf, evidence_data}
use Rattle.audit.proofs.Showing.{of_evidence, told_whole}
use Rattle.audit.proofs.question.find.FindQuestion.tell.Goals as goal

pub returns : goal.returns
returns g c =
    told_whole (rw (c.requires.found.found_is, c.outcome_of.ensures) refl)
    (of_evidence (λ e. IsSearchOf c.args.self.step.seconds e c.outcome_of.result) (evidence_data c.args.evidence.now)
    (rw c.outcome_of.ensures c.requires.found.shows)) (c.publish_text.ensures _ c.found_text-text.ensures)
