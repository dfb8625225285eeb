use Rattle.checker.proofs.EntryStep.{one_more_entry}
use Rattle.checker.proofs.laws.more_entries_narrow.Goals as goal

pub returns : goal.returns
returns c = one_more_entry c.every_list_has_a_hull.ensures
