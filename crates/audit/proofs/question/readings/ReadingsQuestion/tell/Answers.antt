use Rattle.audit.proofs.Common.{refl, are_samples, evidence_data, samples_in}
use Rattle.audit.specs.Common.{times_data}
use Rattle.audit.proofs.Showing.{told_whole}
use Rattle.audit.proofs.TimesShowing.{each_holds, times_shown}
use Rattle.audit.proofs.question.readings.ReadingsQuestion.tell.Goals as goal

pub returns : goal.returns
returns g c =
    let e = evidence_data c.args.evidence.now in
    let said = times_data c.args.second.now in
    let evidence = c.requires.evidence in
    let samples = are_samples e.collection.exchanges e.claim evidence.claim evidence.exchanges.each in
    told_whole refl
    (times_shown e said (each_holds e said (λ r.
    c.true_time_lies_between.ensures.between e.claim (samples_in e) r evidence.claim samples)))
    (c.publish_text.ensures _ c.text_on-text.ensures)
