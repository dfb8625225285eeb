-- What the definitions and contracts of this crate name of others.
pub use Rattle.byte_stream.specs.Bytes.{IsBytes}
pub use Rattle.byte_stream.specs.Fault.{CountsFault}
pub use Rattle.byte_stream.specs.Intake.{TakesAtMost}
pub use Rattle.byte_stream.specs.State.{FeedState, IsReadable, IsWritable, SinkState}
pub use Rattle.era_unfold.specs.Stamp.{unfolded}
pub use Rattle.era_unfold.specs.Window.{per_second, window_high, window_low}
pub use Rattle.era_unfold.specs.declared.unit.Unit.{Unit}
pub use Rattle.era_unfold.specs.declared.unit.Unit.TheVariants.{Micro, Nano}
pub use Rattle.frame_reader.specs.Frame.{Fields, fields_of}
pub use Rattle.hex.specs.Hex.{encode_lower}
pub use Rattle.line_writer.specs.Text.{endpoint, hexadecimal, zero_padded}
pub use Rattle.ntp_packet.specs.Header.{leap_of, mode_of, origin_of, precision_of, receive_of, reference_id_of}
pub use Rattle.ntp_packet.specs.Header.{reference_of, root_delay_of, root_dispersion_of, stratum_of, transmit_of}
pub use Rattle.ntp_packet.specs.Header.{version_of}
pub use Rattle.ntp_packet.specs.Packet.{Packet, packet_of, packet_shown}
pub use Rattle.pcap_reader.specs.Broken.{IsBrokenAfter}
pub use Rattle.pcap_reader.specs.Capture.{IsCapture, Record, most_records}
pub use Rattle.pcap_reader.specs.Limit.{buffer_size, most_taken}
pub use Rattle.pcap_reader.specs.Remaining.{Coming, capture_of}
pub use Rattle.pcap_reader.specs.Source.{IsFresh, IsNextShown, SourceState, TakesFrom}
pub use Rattle.pcap_reader.specs.declared.fault.CaptureFault.{CaptureFault}
pub use Rattle.pcap_reader.specs.declared.format.Format.{Format}
pub use Rattle.pcap_reader.specs.declared.format.RecordHead.{RecordHead}
pub use Rattle.report.specs.Closing.{CanClose, HasRun, stops_of}
pub use Rattle.report.specs.Conclusion.{Answers}
pub use Rattle.report.specs.Output.{HasPut, IsReady, OutputState, Puts, fresh_output, put_count}
pub use Rattle.report.specs.Reports.{Report, Reports, is_capture, is_claim, is_device, is_second, is_sums, refused}
pub use Rattle.report.specs.Run.{capture_state}
pub use Rattle.report.specs.State.{output_state, sink_name}
pub use Rattle.report.specs.declared.fault.Outcome.{Outcome}
pub use Rattle.report.specs.declared.fault.RunFault.{RunFault}
pub use Rattle.report.specs.declared.fault.RunFault.TheVariants.{Memory}
pub use Rattle.std.specs.Fmt.{decimal, signed_decimal}
pub use Rattle.std.specs.List.{filter_map, join_with_byte}
pub use Rattle.std.specs.Option.{option_map}
