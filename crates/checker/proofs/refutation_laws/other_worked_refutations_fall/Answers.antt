use Rattle.std.proofs.Common.{refl}
use Rattle.checker.proofs.RefutationTests.{refused_by_test}
use Rattle.checker.proofs.refutation_laws.other_worked_refutations_fall.Goals as goal

pub returns-clause-too_great : goal.returns-clause-too_great
returns-clause-too_great c = refused_by_test _ _ _ refl

pub returns-clause-too_small : goal.returns-clause-too_small
returns-clause-too_small c = refused_by_test _ _ _ refl

pub returns-clause-within_bound : goal.returns-clause-within_bound
returns-clause-within_bound c = refused_by_test _ _ _ refl

pub returns-clause-too_many_named : goal.returns-clause-too_many_named
returns-clause-too_many_named c = refused_by_test _ _ _ refl

pub returns-clause-named_twice : goal.returns-clause-named_twice
returns-clause-named_twice c = refused_by_test _ _ _ refl

pub returns-clause-not_listed : goal.returns-clause-not_listed
returns-clause-not_listed c = refused_by_test _ _ _ refl

pub returns-clause-answered_before_received : goal.returns-clause-answered_before_received
returns-clause-answered_before_received c = refused_by_test _ _ _ refl

pub returns-clause-outside_span : goal.returns-clause-outside_span
returns-clause-outside_span c = refused_by_test _ _ _ refl
