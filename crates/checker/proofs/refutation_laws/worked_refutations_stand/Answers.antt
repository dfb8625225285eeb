use Rattle.std.proofs.Common.{refl}
use Rattle.checker.proofs.RefutationTests.{refuted_from}
use Rattle.checker.proofs.refutation_laws.worked_refutations_stand.Goals as goal

pub returns-clause-beyond : goal.returns-clause-beyond
returns-clause-beyond c = refuted_from _ _ _ refl

pub returns-clause-greatest : goal.returns-clause-greatest
returns-clause-greatest c = refuted_from _ _ _ refl

pub returns-clause-least : goal.returns-clause-least
returns-clause-least c = refuted_from _ _ _ refl

pub returns-clause-no_bound : goal.returns-clause-no_bound
returns-clause-no_bound c = refuted_from _ _ _ refl

pub returns-clause-named : goal.returns-clause-named
returns-clause-named c = refuted_from _ _ _ refl

pub returns-clause-least_of_all : goal.returns-clause-least_of_all
returns-clause-least_of_all c = refuted_from _ _ _ refl
