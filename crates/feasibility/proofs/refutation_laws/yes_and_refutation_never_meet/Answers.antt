use Rattle.feasibility.proofs.Common.{are_samples, samples_of}
use Rattle.feasibility.proofs.DriftCourse.{not_traceable}
use Rattle.feasibility.proofs.refutation_laws.yes_and_refutation_never_meet.Goals as goal

pub returns : goal.returns
returns c claim xs certificate refutation lawful each accepted refuted =
    not_traceable claim xs refutation lawful each refuted
    ((c.verdicts_are_traceable.ensures claim (samples_of xs claim) certificate lawful
    (are_samples xs claim lawful each)).yes accepted)
