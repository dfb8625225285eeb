use Rattle.feasibility.proofs.Common.{rules}
use Rattle.feasibility.proofs.group_refutation.is_compatible.Goals as goal

pub returns-then-are_compatible : goal.returns-then-are_compatible
returns-then-are_compatible c = search rules
