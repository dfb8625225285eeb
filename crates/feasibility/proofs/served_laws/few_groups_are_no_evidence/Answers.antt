use Rattle.feasibility.proofs.HeardGroups.{no_evidence}
use Rattle.feasibility.proofs.served_laws.few_groups_are_no_evidence.Goals as goal

pub returns : goal.returns
returns c = no_evidence
