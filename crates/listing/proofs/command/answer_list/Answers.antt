use Rattle.listing.proofs.Common.{arith}
use Rattle.listing.proofs.command.answer_list.Goals as goal

pub returns-clause-answers : goal.returns-clause-answers
returns-clause-answers g c = grind arith
