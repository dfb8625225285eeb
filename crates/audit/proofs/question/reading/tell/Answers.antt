use Rattle.audit.proofs.Common.{refl, pos, subst, sym, are_samples, evidence_data, samples_in}
use Rattle.audit.specs.Common.{HoldsError, HoldsTrueTime, Hull, stretch_over}
use Rattle.audit.specs.Reading.{IsToldOf, parts_over, ticks_asked}
use Rattle.finder.proofs.Part.{hull_said}
use Rattle.audit.proofs.Showing.{of_evidence, told_whole}
use Rattle.audit.proofs.question.reading.tell.Goals as goal

pub returns : goal.returns
returns g c =
    let e = evidence_data c.args.evidence.now in
    let r = ticks_asked c.args.asked.begin c.args.asked.end in
    let stretch = stretch_over (pos r.begin) (pos r.end) in
    let evidence = c.requires.evidence in
    let samples = are_samples e.collection.exchanges e.claim evidence.claim evidence.exchanges.each in
    let hull = sym (hull_said (samples_in e) e.claim stretch (parts_over r e) refl) in
    told_whole refl
    (of_evidence (IsToldOf r) e (record {
      error = subst (λ (h : Hull). HoldsError e.claim (samples_in e) stretch h) hull
          (c.best_hulls_hold_the_error.ensures e.claim (samples_in e) stretch evidence.claim samples);
      time = subst (λ (h : Hull). HoldsTrueTime e.claim (samples_in e) r h) hull
          (c.true_time_lies_between.ensures.between e.claim (samples_in e) r evidence.claim samples);
    }))
    (c.publish_text.ensures _ (rw c.last_of.ensures.last at c.reading_text-text.ensures))
