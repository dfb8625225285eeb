use Rattle.span_cover.proofs.BestSample.{best_of-best, best_of-none}
use Rattle.span_cover.proofs.laws.first_best_of_both_ends_are_the_best.Goals as goal

pub returns-clause-some : goal.returns-clause-some
returns-clause-some c = best_of-best

pub returns-clause-none : goal.returns-clause-none
returns-clause-none c = best_of-none
