use Rattle.intersection.proofs.Common.{rules, items-with_items}
use Rattle.intersection.proofs.SortedEnds.{in_order}
use Rattle.intersection.proofs.ends.sorted_ends.Goals as goal

pub returns-clause-order : goal.returns-clause-order
returns-clause-order g c =
    rw (items-with_items c.loop-interval-2.ends c.sort_unstable.new.self (search rules))
    (in_order c.sort_unstable.new.self c.sort_unstable.ensures.sorted)
