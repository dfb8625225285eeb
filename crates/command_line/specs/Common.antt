-- What the definitions and contracts of this crate name of others.
pub use Rattle.audit.specs.Second.{certificate_second}
pub use Rattle.audit.specs.declared.question.Request.{Request}
pub use Rattle.audit.specs.declared.question.reading.AtReading.{AtReading}
pub use Rattle.byte_stream.specs.State.{FeedState, IsWritable, SinkState}
pub use Rattle.claim_file.specs.Time.{time_of}
pub use Rattle.clap.specs.Kinds.{IsAmong, Kinds}
pub use Rattle.clap.specs.Words.{Row, Text, fault_of, first_of, found_of, kind_of, one_of, rows_of, subcommand_of}
pub use Rattle.clap.specs.declared.error.kind.ErrorKind.{ErrorKind}
pub use Rattle.clap.specs.declared.error.kind.ErrorKind.TheVariants.{DisplayHelp, DisplayVersion, OutOfMemory}
pub use Rattle.clap.specs.declared.parser.matches.ArgMatches.{ArgMatches}
pub use Rattle.line_writer.specs.declared.field.Style.{Style}
pub use Rattle.line_writer.specs.declared.field.Style.TheVariants.{Human, Plain}
pub use Rattle.program.specs.Asked.{IsAskedBy}
pub use Rattle.program.specs.Files.{FilesState, MayOpen, holds}
pub use Rattle.program.specs.Inputs.{sums_of}
pub use Rattle.program.specs.Invocation.{IsRefusedBy, is_human, judged_of, judged_places, second_of}
pub use Rattle.program.specs.Opening.{AreOpened, Place, Places, place}
pub use Rattle.program.specs.Response.{names_of}
pub use Rattle.program.specs.Run.{IsBare, IsUntouched}
pub use Rattle.program.specs.Says.{Says}
pub use Rattle.program.specs.World.{World, world}
pub use Rattle.program.specs.declared.invocation.Invocation.{Invocation}
pub use Rattle.program.specs.declared.invocation.JudgedPaths.{JudgedPaths}
pub use Rattle.program.specs.declared.invocation.Judgement.{Judgement}
pub use Rattle.program.specs.declared.invocation.Listed.{Listed}
pub use Rattle.program.specs.declared.invocation.Paths.{Paths}
pub use Rattle.program.specs.declared.invocation.Shown.{Shown}
pub use Rattle.program.specs.declared.run.Response.{Response}
pub use Rattle.reading_time.specs.Reading.{ReadingData, reading_of}
pub use Rattle.report.specs.Conclusion.{Concludes, conclusion_of}
pub use Rattle.report.specs.declared.fault.Input.TheVariants.{Certificate}
pub use Rattle.report.specs.declared.fault.RunFault.TheVariants.{Memory}
pub use Rattle.summed_inputs.specs.Holding.{AreSummed, Feeds}
pub use Rattle.summed_inputs.specs.InputBytes.{InputBytesData}
pub use Rattle.summed_inputs.specs.Shown.{IsProven}
pub use Rattle.std.specs.Option.{option_map_or}
pub use Rattle.std.specs.Str.{bytes_eq}
pub use Rattle.std.specs.Str.Parse.{IsNumeral, digits_value, without_leading_plus}
pub use Rattle.std.specs.declared.alloc.Global.{Global}
