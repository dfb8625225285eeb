use Rattle.std.proofs.Common.{refl, rules}
use Rattle.report.specs.declared.fault.Outcome.TheVariants.{Yes, No}
use Rattle.summed_inputs.proofs.laws.check_is_the_theorem.Goals as goal

pub returns-clause-yes : goal.returns-clause-yes
returns-clause-yes c about claim certificate capture bytes shows = search (rules, shows Yes refl)

pub returns-clause-no : goal.returns-clause-no
returns-clause-no c about claim certificate capture shows = shows No refl
