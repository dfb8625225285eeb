-- What the definitions and contracts of this crate name of others.
pub use Rattle.byte_stream.specs.Bytes.{IsBytes}
pub use Rattle.byte_stream.specs.Fault.{CountsFault}
pub use Rattle.claim_file.specs.Claim.{ClaimData, data_of}
pub use Rattle.claim_file.specs.Group.{servers_of}
pub use Rattle.era_unfold.specs.Stamp.{unfolded}
pub use Rattle.era_unfold.specs.Window.{per_second, window_high, window_low}
pub use Rattle.indexmap.specs.IndexMap.{get}
pub use Rattle.ntp_packet.specs.Header.{leap_of, mode_of, origin_of, receive_of, reference_id_of, root_distance_of}
pub use Rattle.ntp_packet.specs.Header.{stratum_of, transmit_of, version_of}
pub use Rattle.ntp_packet.specs.Packet.{Packet, ntp_port, packet_of, packet_shown}
pub use Rattle.pcap_reader.specs.Capture.{IsLawfulHead, Record, most_records}
pub use Rattle.pcap_reader.specs.Fault.{IsRecordFault}
pub use Rattle.pcap_reader.specs.Remaining.{Coming}
pub use Rattle.pcap_reader.specs.Source.{IsFresh, SourceState, TakesFrom}
pub use Rattle.pcap_reader.specs.declared.fault.CaptureFault.{CaptureFault}
pub use Rattle.pcap_reader.specs.declared.fault.CaptureFault.TheVariants.{Read}
pub use Rattle.pcap_reader.specs.declared.format.RecordHead.{RecordHead}
pub use Rattle.std.specs.Hash.{u64}
pub use Rattle.std.specs.Int.{swap_bytes, w64}
pub use Rattle.std.specs.List.{filter_map, fold, list_all, list_any}
pub use Rattle.std.specs.Option.{option_and_then, option_map}
pub use Rattle.std.specs.Result.{result_ok}
pub use Rattle.std.specs.Str.{bytes_eq}
