use Rattle.audit.proofs.Common.{refl, any_data, evidence_data}
use Rattle.audit.proofs.Showing.{told_whole}
use Rattle.audit.proofs.VerdictShowing.{verdict_shown}
use Rattle.audit.proofs.question.check.CheckQuestion.tell.Goals as goal

pub returns : goal.returns
returns g c =
    let findings = c.findings_on-findings in
    let certificate = any_data c.args.second.now in
    let e = evidence_data c.args.evidence.now in
    told_whole (rw (c.outcome_of.ensures, findings.ensures.exact, c.fits_told.ensures) refl)
    (verdict_shown e certificate c.args.self.about.now c.bytes_tell_what_they_show.ensures c.outcome_of.result
    (rw c.outcome_of.ensures findings.ensures.shows))
    (c.publish_text.ensures _ c.text_on-text.ensures)
