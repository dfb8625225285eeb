use Rattle.checker.proofs.Exchange.{are_samples}
use Rattle.finder.proofs.laws.samples_of_exchanges_keep_limits.Goals as goal

pub returns-clause-of_claim : goal.returns-clause-of_claim
returns-clause-of_claim c = λ claim xs lawful each. are_samples xs claim lawful each
