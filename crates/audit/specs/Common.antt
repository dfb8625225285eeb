-- What the definitions and contracts of this crate name of others.
pub use Rattle.audit_text.specs.Answer.{covers_answer, evidence_answer, found_answer, open_answer, refutation_answer, shown_answer}
pub use Rattle.audit_text.specs.CheckReport.{about_told, check_text}
pub use Rattle.audit_text.specs.CoverLines.{covers_text}
pub use Rattle.envelope_text.specs.Envelope.{envelope_text}
pub use Rattle.audit_text.specs.Nothing.{nothing_text}
pub use Rattle.audit_text.specs.Parts.{parts_text}
pub use Rattle.audit_text.specs.Refutation.{no_refutation_text, refuted_text}
pub use Rattle.audit_text.specs.Samples.{samples_text}
pub use Rattle.audit_text.specs.Table.{rows_from}
pub use Rattle.audit_text.specs.Settlement.{conflicts_text, evidence_text, open_text}
pub use Rattle.audit_text.specs.declared.check_report.Findings.{Findings}
pub use Rattle.audit_text.specs.declared.verdict_line.AnyVerdict.{AnyVerdict}
pub use Rattle.audit_text.specs.declared.verdict_line.AnyVerdict.TheVariants.{OfPieces, ByCovers}
pub use Rattle.envelope_text.specs.declared.envelope.EnvelopeOptions.{EnvelopeOptions}
pub use Rattle.envelope_text.specs.declared.least_line.LeastLine.{LeastLine}
pub use Rattle.envelope_text.specs.declared.least_line.LeastLine.TheVariants.{Holds, NoneHolds, NotAsked}
pub use Rattle.byte_stream.specs.Bytes.{IsBytes}
pub use Rattle.byte_stream.specs.Fault.{CountsFault}
pub use Rattle.byte_stream.specs.Intake.{TakesAtMost}
pub use Rattle.byte_stream.specs.State.{FeedState, IsReadable, IsWritable, SinkState}
pub use Rattle.byteorder.specs.Endian.{big_bytes}
pub use Rattle.certificate.specs.Certificate.{CertificateData, PieceData, data_of as certificate_data, max_pieces}
pub use Rattle.certificate.specs.Refutation.{RefutationData, data_of as refutation_data}
pub use Rattle.certificate.specs.RefutationWriting.{refutation_text}
pub use Rattle.certificate.specs.Writing.{certificate_text}
pub use Rattle.checker.specs.Course.{Course, Fits, FitsInWindows}
pub use Rattle.checker.specs.PieceFit.{FitsPiece, OfEachEntry}
pub use Rattle.checker.specs.Refutation.{HasCourse, IsAgainst, IsRefuted, SharesRequests}
pub use Rattle.checker.specs.RefutationTest.{is_refuted}
pub use Rattle.checker.specs.Samples.{AreSamplesOf}
pub use Rattle.checker.specs.Settlement.{Settles}
pub use Rattle.checker.specs.Stretch.{stretch_of, stretches_of}
pub use Rattle.checker.specs.Traceability.{HoldsError, IsContradicted, IsObservedIn, IsOfHull, IsRefusedByHull}
pub use Rattle.checker.specs.Traceability.{IsTraceable, IsTraceableByPieces, IsVerdictOn, IsWithin, IsWithinNanoseconds}
pub use Rattle.checker.specs.Traceability.{samples_of}
pub use Rattle.checker.specs.Verdict.{verdict_of}
pub use Rattle.checker.specs.declared.verdict.Verdict.{Verdict}
pub use Rattle.checker.specs.declared.verdict.Why.{Why}
pub use Rattle.checker.specs.declared.verdict.Why.TheVariants.{Contradiction}
pub use Rattle.claim_file.specs.Claim.{ClaimData, IsLawful, data_of, group_count, max_bound_ns, with_bound}
pub use Rattle.claim_file.specs.Group.{IsInGroup}
pub use Rattle.claim_file.specs.Reading.{claim_of}
pub use Rattle.claim_file.specs.Time.{IsTime}
pub use Rattle.cover_certificate.specs.AnyReading.{AnyData, IsFewOfAny, any_data, by_covers, of_pieces}
pub use Rattle.cover_certificate.specs.CoverCertificate.{CoverCertificateData, piece_count}
pub use Rattle.cover_certificate.specs.CoverWriting.{covers_text as covers_json}
pub use Rattle.cover_checker.specs.Acceptance.{IsAccepted as IsAcceptedByCovers}
pub use Rattle.cover_checker.specs.Admission.{BoundSpan}
pub use Rattle.cover_checker.specs.NamedFit.{FitsNamed}
pub use Rattle.cover_checker.specs.Traceability.{IsNamed, IsTraceableByCovers}
pub use Rattle.cover_checker.specs.Traceability.{IsTraceable as IsTraceableToAll, IsVerdictOn as IsCoverVerdictOn}
pub use Rattle.cover_checker.specs.Verdict.{IsVerdict as IsCoverVerdict}
unfoldable pub use Rattle.cover_checker.specs.VerdictTest.{verdict_of as cover_verdict_of}
pub use Rattle.cover_checker.specs.declared.verdict.CoverVerdict.{CoverVerdict}
pub use Rattle.cover_finder.specs.Finder.{IsFinderFor}
pub use Rattle.cover_finder.specs.Hull.{HoldsError as HoldsErrorByCovers, IsHullByCovers, IsNearlyAttained}
pub use Rattle.cover_finder.specs.Open.{MayStayOpen}
pub use Rattle.cover_finder.specs.Answer.{AnswerData, IsShownByCoversAlone, answer_data, of_finder, shown_by_covers}
pub use Rattle.era_unfold.specs.Nanoseconds.{nanoseconds_per_second}
pub use Rattle.era_unfold.specs.Ratio.{IsCeiling, IsFloor, ceiling_of, floor_of}
pub use Rattle.era_unfold.specs.Stamp.{IsUnfolded, unfolded}
pub use Rattle.era_unfold.specs.Window.{per_second, ticks_per_second}
pub use Rattle.era_unfold.specs.declared.unit.Unit.{Unit}
pub use Rattle.feasibility.specs.Cover.{SomeCourse}
pub use Rattle.feasibility.specs.DriftRefutation.{HasDriftCourse, IsRefutedWithDrift, Shows}
pub use Rattle.feasibility.specs.DriftSettlement.{SettlesFit}
pub use Rattle.feasibility.specs.DriftTest.{is_refuted_with_drift}
pub use Rattle.finder.specs.Answer.{FindsEnvelope}
pub use Rattle.finder.specs.Carried.{FindsLeastBound, IsCarried, piece_holding}
pub use Rattle.finder.specs.Envelope.{EnvelopeData, IsLeast, envelope_of}
pub use Rattle.finder.specs.Fewest.{NoneOfFewIsAccepted, stretch_over}
pub use Rattle.finder.specs.Found.{FoundData, certificate, data_of as found_data, found_of, hull_at, nothing}
pub use Rattle.finder.specs.NearestRefutation.{IsNearestRefutation, NoneIsRefuted, nearest_refutation}
pub use Rattle.finder.specs.Piece.{IsStep, count_of, stretch_at}
pub use Rattle.finder.specs.Refusal.{NoneIsAcceptedOver}
pub use Rattle.finder.specs.Settlement.{HasTooManyPieces, IsFittedByNone, IsLeftOpen, IsShownBy, IsUnheard, SettledData}
pub use Rattle.finder.specs.Settlement.{fitted_by_none, left_open, no_evidence, refuted, settled_data, shown}
pub use Rattle.finder.specs.TickParts.{best_parts}
pub use Rattle.finder.specs.declared.carried.LeastCarried.{LeastCarried}
pub use Rattle.finder.specs.declared.fault.FindFault.{FindFault}
pub use Rattle.finder.specs.declared.fault.FindFault.TheVariants.{TooManyPieces}
pub use Rattle.finder.specs.declared.least.LeastBound.{LeastBound}
pub use Rattle.frame_reader.specs.Frame.{Fields, HoldsDatagram, datagram_of, tag_bytes}
pub use Rattle.intersection.specs.declared.kinds.Hull.{Hull}
pub use Rattle.intersection.specs.declared.kinds.Hull.TheVariants.{Empty, Unbounded}
pub use Rattle.json_text.specs.Text.{parsed}
pub use Rattle.line_writer.specs.declared.field.Style.{Style}
pub use Rattle.line_writer.specs.declared.field.Style.TheVariants.{Human, Plain}
pub use Rattle.ntp_packet.specs.Header.{leap_of, mode_of, origin_of, precision_of, precision_ticks_of, receive_of}
pub use Rattle.ntp_packet.specs.Header.{root_delay_of, root_dispersion_of, stratum_of, transmit_of, version_of}
pub use Rattle.ntp_packet.specs.Packet.{Packet, ntp_port, packet_of}
pub use Rattle.pairing.specs.Answer.{answer_of}
pub use Rattle.pairing.specs.Compact.{compact_data}
pub use Rattle.pairing.specs.Exchange.{AreLawful, SameRequest}
pub use Rattle.pairing.specs.Message.{IsReplyOf, IsRequestTo, replying_server, requested_server}
pub use Rattle.pairing.specs.Pairing.{Collection, exchanges_of}
pub use Rattle.pairing.specs.Refusal.{refusal_of}
pub use Rattle.pairing.specs.Sources.{common_reference, source_count}
pub use Rattle.pairing.specs.declared.exchange.Exchange.{Exchange}
pub use Rattle.pairing.specs.declared.fault.PairFault.{PairFault}
pub use Rattle.pcap_reader.specs.Capture.{IsCapture, Record, magic_of}
pub use Rattle.pcap_reader.specs.Field.{spelled}
pub use Rattle.pcap_reader.specs.Limit.{most_taken}
pub use Rattle.pcap_reader.specs.Remaining.{Coming, capture_of}
pub use Rattle.pcap_reader.specs.declared.fault.CaptureFault.{CaptureFault}
pub use Rattle.pcap_reader.specs.declared.format.Endian.{Endian}
pub use Rattle.pcap_reader.specs.declared.format.Format.{Format}
pub use Rattle.report.specs.CertificateInput.{certificate_read, max_certificate}
pub use Rattle.report.specs.ClaimInput.{claim_read, max_claim}
pub use Rattle.report.specs.Conclusion.{IsConcluded}
pub use Rattle.report.specs.ExitStatus.{status_of}
pub use Rattle.report.specs.Fault.{run_fault_of}
pub use Rattle.report.specs.Input.{most_read}
pub use Rattle.report.specs.Output.{IsReady, fresh_output}
pub use Rattle.report.specs.Publication.{IsMadeFor, IsUnwritten, Publishes, PutsReady, Ready}
pub use Rattle.report.specs.Reading.{IsFromOutside, Reads}
pub use Rattle.reading_time.specs.Reading.{IsLawfulReading, ReadingData, reading_data}
pub use Rattle.reading_time.specs.Times.{AreLawfulTimes, times_data}
pub use Rattle.report.specs.RefutationInput.{max_refutation, refutation_read}
pub use Rattle.report.specs.TimesInput.{max_times, times_read}
pub use Rattle.report.specs.Reports.{CountsSink, GetsText, Report, is_capture, is_claim, is_device, is_second, refused}
pub use Rattle.report.specs.Reports.{whole_text}
pub use Rattle.report.specs.Run.{RunState, no_feed, run_state}
pub use Rattle.report.specs.Runs.{HasClaim, HasLawfulHeader, IsBeforeCapture, IsBeforeSecond, Runs}
pub use Rattle.report.specs.State.{output_state, sink_name}
pub use Rattle.report.specs.declared.conclusion.Conclusion.{Conclusion}
pub use Rattle.report.specs.declared.fault.Input.{Input}
pub use Rattle.report.specs.declared.fault.Input.TheVariants.{Claim}
pub use Rattle.report.specs.declared.fault.Outcome.{Outcome}
pub use Rattle.report.specs.declared.fault.Outcome.TheVariants.{No, Yes}
pub use Rattle.report.specs.declared.fault.RunFault.{RunFault}
pub use Rattle.report.specs.declared.fault.RunFault.TheVariants.{Capture, Certificate, Device, Exchanges, Memory}
pub use Rattle.report.specs.declared.fault.RunFault.TheVariants.{Pieces, Refutation, Times, TooBig}
pub use Rattle.sample_interval.specs.Moment.{IsInWindow, error_of}
pub use Rattle.sample_interval.specs.Widening.{billion}
pub use Rattle.sample_interval.specs.declared.kinds.Sample.{Sample}
pub use Rattle.serde_json.specs.Data.{Data, array, number, string, unsigned}
pub use Rattle.serde_json.specs.Find.{get}
pub use Rattle.serde_json.specs.View.{items_of}
pub use Rattle.span_cover.specs.Group.{piece_hull}
pub use Rattle.span_cover.specs.Piece.{IsPiece}
pub use Rattle.span_cover.specs.declared.part.Part.{Part}
pub use Rattle.span_cover.specs.declared.stretch.Stretch.{Stretch}
pub use Rattle.std.specs.Int.{int_max}
pub use Rattle.std.specs.List.{AllZip, flat_map, range_with_len}
pub use Rattle.std.specs.Net.Grammar.{IsDotted}
pub use Rattle.std.specs.Option.{option_map}
pub use Rattle.std.specs.Result.{result_map_both}
pub use Rattle.true_time.specs.Order.{HoldsOrderOfOne, IsShort, IsSo, order_of, order_of_one}
pub use Rattle.true_time.specs.OrderLine.{order_text}
pub use Rattle.true_time.specs.ReadingLine.{reading_heading, reading_line, readings_text}
pub use Rattle.true_time.specs.TrueText.{true_text}
pub use Rattle.true_time.specs.TrueTime.{HoldsTrueTime, IsThen, hull_of, parts_of, reading_over}
pub use Rattle.true_time.specs.When.{HoldsWhen, IsDuring, when_at}
pub use Rattle.true_time.specs.declared.order.Order.{Order}
pub use Rattle.true_time.specs.declared.when.When.{When}
