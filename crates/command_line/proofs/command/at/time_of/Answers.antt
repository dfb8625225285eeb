use Rattle.std.proofs.Common.{◌∙◌, List, ap, ℕ}
use Rattle.claim_file.specs.Time as spec
use Rattle.command_line.proofs.command.at.time_of.Goals as goal

pub returns : goal.returns
returns c = c.read_time.ensures ∙ ap (λ (text : List ℕ). spec.time_of text) c.operand.ensures
