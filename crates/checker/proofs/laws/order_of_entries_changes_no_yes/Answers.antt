use Rattle.checker.proofs.Order.{entries_turned}
use Rattle.checker.proofs.laws.order_of_entries_changes_no_yes.Goals as goal

pub returns : goal.returns
returns c = entries_turned
