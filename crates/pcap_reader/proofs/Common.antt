-- What the proofs of this crate name from elsewhere.
pub use Rattle.std.proofs.Common.{Bool, Err, IfSome, List, None, Ok, Option, Result, Some, [], add-zero, ap, append-nil}
pub use Rattle.std.proofs.Common.{append_assoc, ap₂, arith, drop, drop-drop, false, inl, inr, length, length-append}
pub use Rattle.std.proofs.Common.{length-drop, length-take, length-take-le, refl, rules, slice_range, subst, suc, sym}
pub use Rattle.std.proofs.Common.{take, true, zero, zero-add, ℕ, ⊎_elim, ◌%◌, ◌*◌, ◌++◌, ◌+◌, ◌-◌, ◌/◌, ◌<◌, ◌^◌, ◌↔◌}
pub use Rattle.std.proofs.Common.{◌∙◌, ◌∷◌, ◌≡◌, ◌≤◌, ◌⊎◌}
pub use Rattle.std.proofs.Math.Seq.{drop-append_seam, take-add, take-append-add, take-append_seam}
pub use Rattle.std.proofs.lemmas.Bool.{cases_eq, cases_lt, eq-eqb, eqb-false, eqb-true, le-leb, le-ltb, lt-leb, lt-ltb}
pub use Rattle.std.proofs.lemmas.Bool.{ne_eqb}
pub use Rattle.std.proofs.lemmas.List.{drop-append-le, drop-take, get_or_append_left, take-append-drop, take-append-le}
pub use Rattle.std.proofs.lemmas.List.{take-take}
pub use Rattle.std.proofs.lemmas.Result.{MatchResult-weaker, err_from_is_err_and}
pub use Rattle.std.specs.Io.KnownBytes.{Consumes, IsAtEnd, Keeps, prepend_known}
pub use Rattle.std.specs.Option.{option_map}
pub use Rattle.std.specs.Prelude.{IfOk, IsErrOf, IsTrue, MatchOption, MatchResult, OnOk, if◌then◌else◌}
pub use Rattle.byte_stream.specs.Bytes.{IsBytes, byte_at-lt}
pub use Rattle.byte_stream.specs.Fault.{CountsFault}
pub use Rattle.byte_stream.specs.Intake.{CountsBytes-front, TakesAtMost}
pub use Rattle.byte_stream.specs.State.{FeedState}
pub use Rattle.era_unfold.specs.Window.{per_second}
pub use Rattle.era_unfold.specs.declared.unit.Unit.{Unit}
pub use Rattle.era_unfold.specs.declared.unit.Unit.TheVariants.{Micro, Nano}
pub use Rattle.pcap_reader.specs.Broken.{BeginsWith, HasFault, HasHeaderFault, HasLink, HasMagic, HasVersion}
pub use Rattle.pcap_reader.specs.Broken.{IsBrokenAfter}
pub use Rattle.pcap_reader.specs.Buffered.{Pulls, Refills, held_bytes, last_bytes, still_has, supply_of}
pub use Rattle.pcap_reader.specs.Capture.{AreRecordsFrom, IsCapture, IsHeader, IsRecordAt, Record, magic_of}
pub use Rattle.pcap_reader.specs.Capture.{most_captured, most_records, record_spelling, spelling}
pub use Rattle.pcap_reader.specs.Fault.{IsHeaderFault, IsRecordFault, MayAnswer}
pub use Rattle.pcap_reader.specs.Field.{number_in, spelled}
pub use Rattle.pcap_reader.specs.Header.{format_of, version_and_link}
unfoldable pub use Rattle.pcap_reader.specs.Header.{header_of}
pub use Rattle.pcap_reader.specs.Limit.{buffer_size}
pub use Rattle.pcap_reader.specs.Prefix.{ShowsFault, ShowsHead}
pub use Rattle.pcap_reader.specs.Remaining.{Coming, broken_end, capture_of, captured_in, head_at, head_fault}
pub use Rattle.pcap_reader.specs.Remaining.{original_in, record_at, sec_in, sub_in, then_coming, whole_end}
unfoldable pub use Rattle.pcap_reader.specs.Remaining.{coming_from, coming_within, fault_at}
pub use Rattle.pcap_reader.specs.Source.{IsNext, IsReadInTime, IsUndecided, TakesFrom, TakesFrom-none, TakesFrom-trans}
pub use Rattle.pcap_reader.specs.Source.{is_read, read_failed, shown_by}
pub use Rattle.pcap_reader.specs.declared.buffered.Buffered.{Buffered}
pub use Rattle.pcap_reader.specs.declared.fault.CaptureFault.{CaptureFault}
pub use Rattle.pcap_reader.specs.declared.fault.CaptureFault.TheVariants.{BadFraction, Failed, Link, Magic, Memory}
pub use Rattle.pcap_reader.specs.declared.fault.CaptureFault.TheVariants.{Read, TooLong, TooMany, TornHeader}
pub use Rattle.pcap_reader.specs.declared.fault.CaptureFault.TheVariants.{TornRecord, Version}
pub use Rattle.pcap_reader.specs.declared.format.Endian.{Endian}
pub use Rattle.pcap_reader.specs.declared.format.Endian.TheVariants.{Big, Little}
pub use Rattle.pcap_reader.specs.declared.format.Format.{Format}
pub use Rattle.pcap_reader.specs.declared.format.RecordHead.{RecordHead}
