use Rattle.audit.proofs.ClaimText.{one_claim}
use Rattle.audit.proofs.laws.texts_say_one_claim.Goals as goal

pub returns : goal.returns
returns c = one_claim c.times_are_spelled.ensures c.addresses_are_dotted.ensures
