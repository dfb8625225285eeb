use Rattle.std.proofs.Common.{subst}
use Rattle.std.proofs.lemmas.Result.{IfOk-weaker}
use Rattle.std.specs.Prelude.{IfOk, Result}
use Rattle.clap.specs.declared.builder.command.Command.{Command}
use Rattle.command_table.specs.Common.{AllocError}
use Rattle.command_table.specs.Commands.{IsDeclared}
use Rattle.command_table.proofs.Subcommands.{added}
use Rattle.command_table.proofs.program.with.Goals as goal

pub returns : goal.returns
returns c = IfOk-weaker c.subcommand.result _ _
    (λ new adds shapes shape before declared. added shapes shape before
    (subst (λ (r : Result Command AllocError). IfOk r (IsDeclared shape)) c.in_ok-command.was declared) adds)
    c.subcommand.ensures
