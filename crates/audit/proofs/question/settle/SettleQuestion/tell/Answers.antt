use Rattle.audit.proofs.Common.{◌≡◌, [], unwrap_or, IfOk-weaker, refl, about_told, answer_data, evidence_data, IsSettledBy, text_for}
use Rattle.audit.proofs.Showing.{answer_from, of_inputs, told_whole}
use Rattle.audit.proofs.SettlementText.{report_is}
use Rattle.audit.proofs.question.settle.SettleQuestion.tell.Goals as goal

pub returns : goal.returns
returns g c =
    let e = evidence_data c.args.evidence.now in
    let found = c.args.found.now in
    let answer = answer_data found.answer in
    let known = text_for c.args.style e found.least answer in
    let about = about_told c.args.style c.args.self.about.now in
    told_whole (rw c.outcome_of.ensures (report_is answer about known c.requires.found))
    (of_inputs e (IsSettledBy c.outcome_of.result) (λ b f is. record {
      answer = answer;
      outcome_is = c.outcome_of.ensures;
      holds = answer_from c.bytes_tell_what_they_show.ensures b f e is answer c.requires.finding.settled;
    })) (c.publish_text.ensures _ (c.with_about-text.ensures (unwrap_or known [])
    (IfOk-weaker c.text_for-text.result _ (λ t. t.items ≡ unwrap_or known []) (λ t is. rw is refl)
    c.text_for-text.ensures)))
