use Rattle.feasibility.proofs.Common.{are_samples, samples_of}
use Rattle.feasibility.proofs.HeardGroups.{untraceable}
use Rattle.feasibility.proofs.served_laws.no_evidence_gives_no_yes.Goals as goal

pub returns : goal.returns
returns c claim xs groups certificate lawful each none accepted =
    untraceable claim xs lawful groups none
    ((c.verdicts_are_traceable.ensures claim (samples_of xs claim) certificate lawful
    (are_samples xs claim lawful each)).yes accepted)
