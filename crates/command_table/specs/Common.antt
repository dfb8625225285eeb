-- What the definitions and contracts of this crate name of others.
pub use Rattle.clap.specs.Simple.{new_shape}
pub use Rattle.clap.specs.Walk.{is_empty}
pub use Rattle.clap.specs.Words.{App, Rule, Shape, Text, app_of, new_rule, rule_of}
pub use Rattle.clap.specs.declared.builder.action.ArgAction.TheVariants.{SetTrue}
pub use Rattle.clap.specs.declared.builder.command.Command.{Command}
pub use Rattle.clap.specs.declared.builder.command.Command.TheViews.{out-Command}
pub use Rattle.clap.specs.declared.builder.value_parser.ValueParser.TheVariants.{Signed}
pub use Rattle.std.specs.declared.alloc.AllocError.{AllocError}
