use Rattle.audit.proofs.SettlementShowing.{conflicts_within}
use Rattle.audit.proofs.question.settle.settled_text.Goals as goal

pub conflicts_text-requires-clause-numbers : goal.conflicts_text-requires-clause-numbers
conflicts_text-requires-clause-numbers c =
    rw (c.deref-in-NothingFits.ensures.value, c.deref.ensures.value) (conflicts_within c.args.evidence.now
    c.in-NothingFits.conflicts.items (rw c.in-NothingFits.is at c.requires.settled))
