use Rattle.claim_file.proofs.Addresses.{IsDotted-address_of, address_of-IsDotted}
use Rattle.claim_file.proofs.laws.addresses_are_dotted.Goals as goal

pub returns : goal.returns
returns c = λ text address. (IsDotted-address_of text address, address_of-IsDotted text address)
