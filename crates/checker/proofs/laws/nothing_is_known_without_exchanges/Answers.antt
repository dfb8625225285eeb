use Rattle.checker.proofs.Common.{[], All-nil}
use Rattle.checker.proofs.Course.{lone_fits, untraceable}
use Rattle.checker.proofs.laws.nothing_is_known_without_exchanges.Goals as goal

pub returns-clause-any_error : goal.returns-clause-any_error
returns-clause-any_error c = lone_fits

pub returns-clause-refused : goal.returns-clause-refused
returns-clause-refused c claim certificate lawful e =
    untraceable claim lawful ((c.verdicts_are_traceable.ensures claim [] certificate lawful
    (record { lawful = All-nil _; listed = All-nil _ })).yes e)
