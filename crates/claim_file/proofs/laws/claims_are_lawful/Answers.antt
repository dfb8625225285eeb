use Rattle.claim_file.proofs.Lawful.{claim_of-lawful}
use Rattle.claim_file.proofs.laws.claims_are_lawful.Goals as goal

pub returns : goal.returns
returns c = record {
  lawful = λ bytes claim e. (claim_of-lawful bytes claim e).0;
  numbered = λ bytes claim e. (claim_of-lawful bytes claim e).1;
}
