-- What the definitions and contracts of this crate name of others.
pub use Rattle.audit.specs.Check.{IsDenied, IsShownAs, IsTracedByPieces, IsTracedTo, ShowsInRelations, check}
pub use Rattle.audit.specs.Contested.{IsContestedShown}
pub use Rattle.audit.specs.Finding.{ShowsFinding}
pub use Rattle.audit.specs.Headline.{IsShown}
pub use Rattle.audit.specs.Question.{AskedData, Finding, QuestionData, asked_of}
pub use Rattle.audit.specs.Refute.{GiveRefutation, IsContestedOf, IsUncontestedOf, refute}
pub use Rattle.audit.specs.Report.{report_of_bytes}
pub use Rattle.audit.specs.Run.{MayRun, ShowsAt}
pub use Rattle.audit.specs.Second.{IsOfSecond, SecondKind, certificate_second, most_second, no_second, refutation_second, second_read, times_second}
pub use Rattle.audit.specs.Settle.{IsSettledBy, IsShownFromAny, settle}
pub use Rattle.byte_stream.specs.Bytes.{IsBytes}
pub use Rattle.byte_stream.specs.Fault.{CountsFault}
pub use Rattle.byte_stream.specs.Intake.{TakesAtMost}
pub use Rattle.byte_stream.specs.State.{FeedState, IsReadable, IsWritable, SinkState}
pub use Rattle.cover_certificate.specs.AnyReading.{AnyData}
pub use Rattle.report.specs.CertificateInput.{max_certificate}
pub use Rattle.report.specs.ClaimInput.{max_claim}
pub use Rattle.report.specs.Conclusion.{Answers, Concludes, conclusion_of}
pub use Rattle.report.specs.Input.{read_failed}
pub use Rattle.report.specs.Reading.{Reads}
pub use Rattle.report.specs.RefutationInput.{max_refutation}
pub use Rattle.report.specs.TimesInput.{max_times}
pub use Rattle.report.specs.Reports.{is_capture, is_claim, is_device, is_second, is_sums}
pub use Rattle.report.specs.Run.{RunState, run_state}
pub use Rattle.report.specs.declared.conclusion.Conclusion.{Conclusion}
pub use Rattle.report.specs.declared.fault.Input.{Input}
pub use Rattle.report.specs.declared.fault.Outcome.{Outcome}
pub use Rattle.report.specs.declared.fault.Outcome.TheVariants.{No}
pub use Rattle.report.specs.declared.fault.RunFault.{RunFault}
pub use Rattle.report.specs.declared.fault.RunFault.TheVariants.{Device, Memory, Sums, TooBig}
pub use Rattle.report.specs.declared.fault.SumsFault.TheVariants.{Differ, Form, Missing}
pub use Rattle.sha2.specs.Sha256.{sha256}
pub use Rattle.std.specs.Io.KnownBytes.{Keeps}
pub use Rattle.std.specs.Option.{option_map_or}
pub use Rattle.sum_file.specs.Reading.{sum_given, sums_of}
pub use Rattle.sum_file.specs.Sum.{data_of, digest_named}
