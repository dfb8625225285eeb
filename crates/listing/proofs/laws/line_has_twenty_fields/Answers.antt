use Rattle.listing.proofs.TwentyFields.{are_twenty}
use Rattle.listing.proofs.laws.line_has_twenty_fields.Goals as goal

pub returns-clause-twenty : goal.returns-clause-twenty
returns-clause-twenty c = are_twenty
