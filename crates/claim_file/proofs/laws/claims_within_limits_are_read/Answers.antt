use Rattle.claim_file.proofs.Spelled.{claim_back}
use Rattle.claim_file.proofs.laws.claims_within_limits_are_read.Goals as goal

pub returns : goal.returns
returns c = claim_back
