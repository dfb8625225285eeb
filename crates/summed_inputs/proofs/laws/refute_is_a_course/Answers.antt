use Rattle.std.proofs.Common.{refl, rules}
use Rattle.report.specs.declared.fault.Outcome.TheVariants.{Yes, No}
use Rattle.summed_inputs.proofs.laws.refute_is_a_course.Goals as goal

pub returns-clause-yes : goal.returns-clause-yes
returns-clause-yes c drift about claim refutation capture bytes shows = search (rules, shows Yes refl)

pub returns-clause-no : goal.returns-clause-no
returns-clause-no c drift about claim refutation capture shows = shows No refl
