-- What the definitions and contracts of this crate name of others.
pub use Rattle.audit.specs.Check.{check}
pub use Rattle.audit.specs.Common.{When}
pub use Rattle.audit.specs.Order.{GiveWhen}
pub use Rattle.audit.specs.Question.{AskedData, asked_of}
pub use Rattle.audit.specs.Reading.{ticks_asked}
pub use Rattle.audit.specs.ByCovers.{readings_by_covers}
pub use Rattle.audit.specs.Readings.{readings}
pub use Rattle.audit.specs.Refute.{refute}
pub use Rattle.audit.specs.Report.{inputs_read}
pub use Rattle.audit.specs.Request.{question_of}
pub use Rattle.audit.specs.Run.{AnswersFor, HasRead, MayRun, RunsFor, RunsTwice, ShowsAt}
pub use Rattle.audit.specs.Second.{certificate_second, no_second, refutation_second, times_second}
pub use Rattle.audit.specs.Settle.{settle}
pub use Rattle.audit.specs.declared.question.Request.{Request}
pub use Rattle.byte_stream.specs.Fault.{CountsFault}
pub use Rattle.byte_stream.specs.State.{FeedState, IsReadable, IsWritable, SinkState}
pub use Rattle.fault_words.specs.Quote.{shown}
pub use Rattle.fault_words.specs.declared.obstacle.Obstacle.TheVariants.{Full}
pub use Rattle.hex.specs.Hex.{encode_lower}
pub use Rattle.line_writer.specs.declared.field.Style.{Style}
pub use Rattle.line_writer.specs.declared.field.Style.TheVariants.{Plain}
pub use Rattle.listing.specs.Listing.{list_report}
pub use Rattle.report.specs.Conclusion.{Answers, Concludes, conclusion_of, refused_conclusion}
pub use Rattle.report.specs.Delivery.{IsDelivered}
pub use Rattle.report.specs.FaultText.{input_word}
pub use Rattle.report.specs.Input.{IsInputFault, ReadsWhole, read_failed}
pub use Rattle.report.specs.Publication.{IsUnwritten}
pub use Rattle.report.specs.Reading.{IsFromOutside}
pub use Rattle.report.specs.Reports.{whole_text}
pub use Rattle.report.specs.Run.{RunState, bare_state, capture_state, no_feed, run_state}
pub use Rattle.report.specs.declared.conclusion.Conclusion.{Conclusion}
pub use Rattle.report.specs.declared.fault.Input.{Input}
pub use Rattle.report.specs.declared.fault.Input.TheVariants.{Capture, Certificate, Claim, Refutation, Sums, Times}
pub use Rattle.report.specs.declared.fault.Outcome.{Outcome}
pub use Rattle.report.specs.declared.fault.Outcome.TheVariants.{Yes}
pub use Rattle.report.specs.declared.fault.RunFault.{RunFault}
pub use Rattle.report.specs.declared.fault.RunFault.TheVariants.{Device, Memory, Write}
pub use Rattle.std.specs.List.{flat_map}
pub use Rattle.std.specs.Option.{option_map, option_to_list}
pub use Rattle.std.specs.declared.alloc.Global.{Global}
pub use Rattle.sum_file.specs.Reading.{sum_given}
pub use Rattle.summed_inputs.specs.Answer.{JudgesBySums}
pub use Rattle.summed_inputs.specs.Holding.{AreSummed, CountFaults, Feeds, IsUnjudgedFor, TakeAtMost, feed_of, feeds}
pub use Rattle.summed_inputs.specs.Holding.{limit_of}
pub use Rattle.summed_inputs.specs.InputBytes.{InputBytesData, data_of}
pub use Rattle.summed_inputs.specs.Sums.{SumsData, sums_data}
