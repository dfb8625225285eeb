use Rattle.audit.proofs.Common.{refl, data_of as refutation_data, evidence_data}
use Rattle.audit.proofs.Showing.{told_whole}
use Rattle.audit.proofs.RefutationShowing.{refutation_shown}
use Rattle.audit.proofs.question.refute.RefuteQuestion.tell.Goals as goal

pub returns-in-Ok : goal.returns-in-Ok
returns-in-Ok g c =
    let e = evidence_data c.args.evidence.now in
    let refutation = refutation_data c.args.second.now in
    told_whole (rw (c.refuted_outcome.ensures, c.in-Ok.ensures.tested) refl)
    (refutation_shown c.course_beyond_the_bound_contests_the_claim.ensures c.args.self.drift c.args.self.about.now
    refutation e c.refuted_outcome.result (rw c.refuted_outcome.ensures c.in-Ok.ensures.shows))
    (c.publish_text.ensures _ (c.with_about-text.ensures _ c.judged_text-text.ensures))
