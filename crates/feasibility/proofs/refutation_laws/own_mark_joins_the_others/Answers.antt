use Rattle.feasibility.proofs.OwnMark.{among_others, from_others}
use Rattle.feasibility.proofs.refutation_laws.own_mark_joins_the_others.Goals as goal

pub returns : goal.returns
returns c claim xs refutation = (among_others claim xs refutation, from_others claim xs refutation)
