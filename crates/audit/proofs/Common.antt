-- What the proofs of this crate name from elsewhere.
pub use Rattle.std.proofs.Common.{Bool, Err, List, None, Ok, Option, Result, Some, [], ap, append-nil, append_assoc}
pub use Rattle.std.proofs.Common.{arith, codes, cond, count_by, drop, false, get_or, inl, inr, int_lt, length, map}
pub use Rattle.std.proofs.Common.{neg_ℤ, not, pos, refl, subst, suc, sym, take, true, unsigned_abs, zero, ℕ, ℤ, ⊎_elim}
pub use Rattle.std.proofs.Common.{◌&&◌, ◌*ℤ◌, ◌*◌, ◌++◌, ◌+ℤ◌, ◌+◌, ◌-ℤ◌, ◌-◌, ◌<ℤ◌, ◌<◌, ◌==◌, ◌↔◌, ◌∙◌, ◌∷◌, ◌≡◌, ◌≢◌}
pub use Rattle.std.proofs.Common.{◌≤ℤ◌, ◌≤◌, ◌⊎◌, add-one}
pub use Rattle.std.proofs.Math.Nat.{mul-le-mul_right}
pub use Rattle.std.proofs.Math.Seq.{drop-append_seam, take-append_seam, drop-cons}
pub use Rattle.std.proofs.lemmas.Bool.{and_from, and_parts, cases_lt, cond-false, cond-true}
pub use Rattle.std.proofs.lemmas.Bool.Decides.{nat_tests}
pub use Rattle.std.proofs.lemmas.Int.{ints, unsigned_abs-mul}
pub use Rattle.std.proofs.lemmas.List.{get_or-map, length-append, length-drop, length-map, length-take-le}
pub use Rattle.std.proofs.lemmas.List.{take-append-drop, drop_all}
pub use Rattle.std.proofs.lemmas.List.Elements.{All-contains, All-drop, All-filter, All-map, All-nil, All-take}
pub use Rattle.std.proofs.lemmas.Option.{slice_get-get_or, slice_get-map, slice_get_read, slice_get_within, IfSome_then}
pub use Rattle.std.proofs.lemmas.Result.{IfOk-weaker}
pub use Rattle.std.specs.List.{cons_option, list_any}
pub use Rattle.std.specs.Option.{option_and_then}
pub use Rattle.std.specs.Prelude.{All, AllPairs, Contains, IfErr, IfOk, IfSome, IsNone, IsSome, IsSomeAnd, MatchResult}
pub use Rattle.std.specs.Prelude.{filter, filter_map, if◌then◌else◌, is_some, nat_lt, slice_get, slice_index, unwrap_or}
pub use Rattle.audit_text.specs.SampleLine.{sample_line}
unfoldable pub use Rattle.audit_text.specs.Samples.{samples_text}
pub use Rattle.certificate.specs.Refutation.{data_of}
pub use Rattle.checker.proofs.Exchange.{are_samples}
pub use Rattle.lemma_base.proofs.Bool.{by_test}
pub use Rattle.lemma_base.proofs.List.{All-cons_option, All-slice_get, slice_get-below}
pub use Rattle.checker.specs.Course.{IsClientMoment}
pub use Rattle.checker.specs.Stretch.{begin_of, stretches_from}
pub use Rattle.claim_file.specs.Address.{address_of, addresses_of, are_different}
pub use Rattle.claim_file.specs.Reading.{NamedData, is_in_range, named_of}
pub use Rattle.claim_file.specs.Time.{time_of}
pub use Rattle.feasibility.specs.DriftSettlement.{SettlesWithDrift}
unfoldable pub use Rattle.era_unfold.specs.Nanoseconds.{ticks_down, ticks_up}
unfoldable pub use Rattle.era_unfold.specs.Window.{window_high, window_low}
pub use Rattle.finder.specs.Answer.{Finds}
pub use Rattle.cover_finder.specs.Answer.{IsAnsweredAs, IsOpenForReason}
pub use Rattle.cover_finder.specs.Open.{MayStayOpen}
pub use Rattle.finder.specs.Settlement.{IsSettledAs}
pub use Rattle.ntp_packet.specs.Header.{header_of}
unfoldable pub use Rattle.ntp_packet.specs.Header.{root_distance_of}
pub use Rattle.ntp_packet.specs.Packet.{is_ntp}
unfoldable pub use Rattle.ntp_packet.specs.Packet.{packet_of}
pub use Rattle.pairing.specs.Answer.{AreGiven, IsAnswerTo, unless_broken}
unfoldable pub use Rattle.pairing.specs.Answer.{answer_of}
pub use Rattle.pairing.specs.Compact.{exchange_shown}
pub use Rattle.pairing.specs.Exchange.{most_exchanges}
pub use Rattle.pairing.specs.Message.{Reply, Request, reply_from, reply_in, request_in, request_to}
unfoldable pub use Rattle.pairing.specs.Message.{reply_of, request_of}
pub use Rattle.pairing.specs.Pair.{IsExchangeOf, IsPair, NameEachOther}
pub use Rattle.pairing.specs.Pairing.{answers, distance_of, exchange_of, high_of, low_of}
unfoldable pub use Rattle.pairing.specs.Pairing.{collection_of, replies_of, requests_of}
unfoldable pub use Rattle.pairing.specs.Refusal.{refusal_of}
pub use Rattle.pcap_reader.specs.Capture.{AreRecordsFrom, IsRecordAt, record_spelling, spelling}
pub use Rattle.pcap_reader.specs.Source.{AllRemains, TakesFrom-at_most, TakesFrom-trans}
pub use Rattle.report.proofs.PartedText.{IsGoing, going_done, going_more, going_short, going_start, publishes_over}
pub use Rattle.report.specs.Output.{put_count}
pub use Rattle.report.specs.Publication.{IsAnswerFor}
pub use Rattle.report.specs.Reading.{or_fault}
unfoldable pub use Rattle.report.specs.Reading.{whole_read}
pub use Rattle.report.specs.Reports.{is_sums}
pub use Rattle.report.specs.Runs.{IsUnwrittenAt}
pub use Rattle.sample_interval.specs.Moment.{Moment}
pub use Rattle.serde_json.specs.Data.{Items, Num, item, no_items}
pub use Rattle.serde_json.specs.Find.{as_array, as_str, as_u64}
pub use Rattle.audit.specs.Common.{IsReplyOf, IsRequestTo, ceiling_of, floor_of, replying_server, requested_server}
pub use Rattle.audit.specs.Common.{AllZip, CaptureFault, CertificateData, ClaimData, Collection, Coming, Course, Data}
pub use Rattle.audit.specs.Common.{Endian, Exchange, FeedState, FindFault, FindsEnvelope, Fits, FitsInWindows, Format}
pub use Rattle.audit.specs.Common.{GetsText, HasClaim, HasCourse, HasLawfulHeader, HasTooManyPieces, HoldsError, Input}
pub use Rattle.audit.specs.Common.{IsAgainst, IsBytes, IsCapture, IsCeiling, IsDotted, IsFloor, IsFromOutside}
pub use Rattle.audit.specs.Common.{IsInWindow, IsLawful, IsMadeFor, IsNearestRefutation, IsRefuted, IsTime, IsUnfolded}
pub use Rattle.audit.specs.Common.{IsUnwritten, IsVerdictOn, LeastCarried, No, NoneIsRefuted, Outcome, Packet}
pub use Rattle.audit.specs.Common.{PairFault, PieceData, Plain, Publishes, Reads, Ready, Record, RefutationData, Report}
pub use Rattle.audit.specs.Common.{AnswerData, RunFault, RunState, Runs, SameRequest, Sample, SettledData, Settles, SharesRequests, answer_data}
pub use Rattle.audit.specs.Common.{SinkState, SomeCourse, Stretch, Style, TakesAtMost, TooBig, Unit, Verdict, Yes}
pub use Rattle.audit.specs.Common.{about_told, array, capture_of, certificate_data, certificate_read, claim_of}
pub use Rattle.audit.specs.Common.{claim_read, compact_data, count_of, error_of, exchanges_of, flat_map, get, is_device}
pub use Rattle.audit.specs.Common.{items_of, magic_of, max_claim, max_pieces, most_read, nanoseconds_per_second}
pub use Rattle.audit.specs.Common.{ntp_port, number, option_map, origin_of, output_state, parsed, per_second}
pub use Rattle.audit.specs.Common.{precision_of, precision_ticks_of, range_with_len, receive_of, refused}
pub use Rattle.audit.specs.Common.{refutation_read, result_map_both, root_delay_of, root_dispersion_of, run_fault_of}
pub use Rattle.audit.specs.Common.{samples_of, settled_data, sink_name, spelled, status_of, stretch_of, string}
pub use Rattle.audit.specs.Common.{ticks_per_second, transmit_of, unsigned, whole_text}
pub use Rattle.audit.specs.CaptureInput.{collection_read, pair_run_fault_of}
unfoldable pub use Rattle.audit.specs.CaptureInput.{capture_read}
pub use Rattle.audit.specs.Captured.{CapturedFrame, IsCaptureOf, IsLawfulFrame, frame_of, record_bytes}
pub use Rattle.audit.specs.Check.{AreCoversTraced, ArePiecesTraced, HasVerdict, HasVerdictYes, IsTracedTo, IsYesByCovers, check, outcome_of, verdict_on}
pub use Rattle.audit.specs.Common.{AnyData, AnyVerdict, ByCovers, CoverCertificateData, CoverVerdict, IsAcceptedByCovers, IsCoverVerdictOn}
pub use Rattle.audit.specs.Common.{OfPieces, any_data, by_covers, of_pieces}
pub use Rattle.audit.specs.Check.{IsEnoughFor}
pub use Rattle.audit.specs.Claimed.{IsClaimText, IsTimeAt, IsWithinLimits, numbers_value}
pub use Rattle.audit.specs.Contested.{CourseContests, HasCourseBeyond, IsBeyondNanoseconds, AreRead, ReadingLaw}
pub use Rattle.audit.specs.Contested.{ShowsContested, BytesLaws}
pub use Rattle.audit.specs.Envelope.{IsEnvelopeOf, bound_outcome}
pub use Rattle.audit.specs.Evidence.{EvidenceData, GiveEvidence, IsEvidenceOf, OfClaimAndCapture, evidence_data}
pub use Rattle.audit.specs.Evidence.{samples_in}
pub use Rattle.audit.specs.Exchanged.{FrameLaws, HoldsPacket, HoldsRequest, IsAmong, IsExchangeIn, IsUsable, IsWindowOf}
pub use Rattle.audit.specs.Exchanged.{SameExchange}
pub use Rattle.audit.specs.Find.{IsSearchOf, find_run_fault_of, found_outcome, found_report}
pub use Rattle.audit.specs.Finding.{IsFindingFrom, IsFindingOf, IsSettlementFrom, IsSettlementOf, ShowsFinding}
pub use Rattle.audit.specs.Headline.{Admit, MayChangeBy}
pub use Rattle.audit.specs.Least.{IsLeastBoundOf, least_line_of}
pub use Rattle.audit.specs.HeadlineByCovers.{IsShownByCovers}
pub use Rattle.audit.specs.Question.{AreInputsOf, AskedData, Finding, QuestionData, ShowsOf, for_a_program, no_finding}
pub use Rattle.audit.specs.Refute.{GiveRefutation, IsContestedOf, IsSettledFor, IsUncontestedOf, refute}
pub use Rattle.audit.specs.Refute.{refuted_outcome}
pub use Rattle.audit.specs.Report.{InputsData, IsOfMaking, IsUnfound, Tells, inputs_data, inputs_read, report_on}
pub use Rattle.audit.specs.Report.{run_report, TellsOf}
pub use Rattle.audit.specs.Second.{HasSecond, SecondData, SecondKind, certificate_said, certificate_second, most_second}
pub use Rattle.audit.specs.Second.{no_second, nothing_said, refutation_said, refutation_second, second_read, times_second}
pub use Rattle.audit.specs.Settle.{IsAnswerFrom, IsAnswerOf, IsSettledBy, IsSettledFrom, IsSettledOf, IsShownByCoversOf, IsShownOf, is_on_least, names_least}
pub use Rattle.audit.specs.Settle.{report_of, settled_outcome, text_for, settle_report}
