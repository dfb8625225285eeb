use Rattle.checker.proofs.Common.{length, samples_of}
use Rattle.checker.proofs.RefutationCourse.{not_traceable}
use Rattle.checker.proofs.Exchange.{are_samples}
use Rattle.checker.proofs.refutation_laws.yes_and_refutation_never_meet.Goals as goal

pub returns : goal.returns
returns c claim xs certificate refutation lawful each accepted refuted =
    not_traceable claim xs refutation lawful.reading_not_negative (length claim.servers) each refuted
    ((c.verdicts_are_traceable.ensures claim (samples_of xs claim) certificate lawful
    (are_samples xs claim lawful each)).yes accepted)
