use Rattle.checker.proofs.Exchange.{are_samples}
use Rattle.finder.proofs.CoverHull.{within_most}
use Rattle.finder.proofs.laws.neediest_ticks_bound_the_error.Goals as goal

pub returns : goal.returns
returns c claim xs cover most course lawful each none fits false' observed =
    within_most claim lawful xs each (are_samples xs claim lawful each) cover course fits false' most none observed
