use Rattle.audit_text.proofs.Beyond.{beyond_as_shown}
use Rattle.audit_text.proofs.laws.errors_are_shown_beyond_just_if_they_are.Goals as goal

pub returns : goal.returns
returns c = beyond_as_shown
