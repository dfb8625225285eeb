use Rattle.certificate.proofs.RefutationText.{refutation_of-text, refutation_text-short}
use Rattle.certificate.proofs.laws.refutations_are_written_as_they_are_read.Goals as goal

pub returns : goal.returns
returns c = record { read = refutation_of-text; short = refutation_text-short }
