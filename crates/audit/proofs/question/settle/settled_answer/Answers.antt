use Rattle.std.proofs.Common.{rules}
use Rattle.audit.proofs.SettlementShowing.{conflicts_within}
unfoldable use Rattle.audit.specs.Settle.{settled_answer}
use Rattle.audit.proofs.question.settle.settled_answer.Goals as goal

pub conflicts_text-requires-clause-numbers : goal.conflicts_text-requires-clause-numbers
conflicts_text-requires-clause-numbers c =
    rw (c.deref-in-NothingFits.ensures.value, c.deref.ensures.value) (conflicts_within c.args.evidence.now
    c.in-NothingFits.conflicts.items (rw c.in-NothingFits.is at c.requires.settled))

pub returns-in-Open : goal.returns-in-Open
unfolding settled_answer
returns-in-Open c = rw c.in-Open.is (search (rules, c.open_answer.ensures))
