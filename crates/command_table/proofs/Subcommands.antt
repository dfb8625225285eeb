-- A program gets one more command.
use Rattle.std.proofs.Common.{◌∙◌, Bool, List, [], ◌∷◌, ◌++◌, ap, refl, sym}
use Rattle.clap.specs.Simple.{App, Shape, shape_of, with_subcommand}
use Rattle.clap.specs.Built.{AddsSubcommand}
use Rattle.clap.proofs.SimpleLemmas.{not_empty}
use Rattle.clap.specs.declared.builder.command.Command.{Command}
use Rattle.command_table.specs.Commands.{IsDeclared, IsProgram, program_of}

pub added : {old sub new : Command} (shapes : List Shape) (shape : Shape) → IsProgram (program_of shapes) old →
    IsDeclared shape sub → AddsSubcommand old sub new → IsProgram (program_of (shapes ++ shape ∷ [])) new
added {old} {sub} {new} shapes shape before declared adds = record {
  is = adds.shape declared.local ∙ ap (λ (a : App). with_subcommand a (shape_of sub)) before.is
      ∙ ap (λ (s : Shape). with_subcommand (program_of shapes) s) (ap (λ (a : App). a.top) declared.is)
      ∙ ap (λ (leaf : Bool). record {
        top = record (program_of (shapes ++ shape ∷ [])).top { is_leaf = leaf };
        subs = shapes ++ shape ∷ [];
      }) (sym (not_empty shapes shape));
  local = adds.globals ∙ rw (before.local, declared.local) refl;
}
