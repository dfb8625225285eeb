use Rattle.audit.proofs.Common.{Ok, refl, evidence_data}
use Rattle.audit.specs.Samples.{samples_ready}
use Rattle.audit.proofs.Showing.{told_whole}
use Rattle.audit.proofs.question.samples.tell.Goals as goal

pub returns-in-Ok : goal.returns-in-Ok
returns-in-Ok g c = record {
  made = Ok (samples_ready (evidence_data c.args.evidence.now));
  is_made = rw c.in-Plain.is (refl, refl);
  of_making = tt;
  shows = λ claim second capture are. tt;
  publishes = c.publish_samples.ensures;
}

pub returns-in_default : goal.returns-in_default
returns-in_default g c =
    told_whole refl (λ claim second capture are. tt) (c.publish_text.ensures _ c.samples_text-text.ensures)
