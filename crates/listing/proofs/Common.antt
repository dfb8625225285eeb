-- What the proofs of this crate name from elsewhere.
pub use Rattle.std.proofs.Common.{Bool, Err, List, None, Ok, Option, Result, Some, [], ap, append-nil, append_assoc}
pub use Rattle.std.proofs.Common.{arith, inl, inr, length, length-append, refl, subst, sym, take, true≢false, ℕ, ◌++◌}
pub use Rattle.std.proofs.Common.{◌+◌, ◌-◌, ◌<◌, ◌^◌, ◌∙◌, ◌∷◌, ◌≡◌, ◌≤◌}
pub use Rattle.std.proofs.lemmas.List.Folds.{concat-append}
pub use Rattle.std.specs.List.{concat, join_with_byte}
pub use Rattle.std.specs.Option.{option_map}
pub use Rattle.std.specs.Prelude.{IfSome}
pub use Rattle.byte_stream.specs.Fault.{CountsFault}
pub use Rattle.byte_stream.specs.State.{FeedState, SinkState}
pub use Rattle.pcap_reader.specs.Capture.{Record, most_records}
pub use Rattle.pcap_reader.specs.Remaining.{Coming, broken_end, capture_of, then_coming, whole_end}
pub use Rattle.pcap_reader.specs.Source.{AllRemains, IsFresh, IsNext, IsStep, SourceState, TakesFrom, TakesFrom-none}
pub use Rattle.pcap_reader.specs.Source.{TakesFrom-trans, is_read}
pub use Rattle.pcap_reader.specs.declared.fault.CaptureFault.{CaptureFault}
pub use Rattle.pcap_reader.specs.declared.format.RecordHead.{RecordHead}
pub use Rattle.report.specs.Fault.{run_fault_of}
pub use Rattle.report.specs.Output.{IsCut, IsReady, OutputState, Puts, fresh_output, put_count}
pub use Rattle.report.specs.Reports.{GetsText, Report, Reports, is_device, refused, text_of}
pub use Rattle.report.specs.declared.fault.Outcome.{Outcome}
pub use Rattle.report.specs.declared.fault.RunFault.{RunFault}
pub use Rattle.listing.specs.Listing.{closing_line, report_of, report_on}
unfoldable pub use Rattle.listing.specs.Listing.{lines_of, list_report, listing}
pub use Rattle.listing.specs.PacketLine.{line_of, packet_fields, spaced}
unfoldable pub use Rattle.listing.specs.PacketLine.{clock_fields, endpoint_fields, mode_fields, root_fields}
unfoldable pub use Rattle.listing.specs.PacketLine.{stamp_fields, tick_fields}
pub use Rattle.listing.specs.Progress.{CountsCapture, HasGiven, HasListed, HasPassed, IsUnderWay, Lists, PutsLine}
pub use Rattle.listing.specs.Progress.{most_line, progress, texts_of}
