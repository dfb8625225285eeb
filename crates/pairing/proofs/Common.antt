-- What the proofs of this crate name from elsewhere.
pub use Rattle.std.proofs.Common.{Bool, Err, List, None, Ok, Option, Result, Some, [], ap, append-nil, append_assoc}
pub use Rattle.std.proofs.Common.{arith, bit_or, cond, drop, false, get_or, inl, inr, length, length-append}
pub use Rattle.std.proofs.Common.{length-drop, length-take, map, refl, rules, set, subst, suc, sym, take}
pub use Rattle.std.proofs.Common.{take-append-drop, true, true≢false, zero, zero-add, ℕ, ◌%◌, ◌++◌, ◌+◌, ◌-◌, ◌<◌, ◌^◌}
pub use Rattle.std.proofs.Common.{◌∙◌, ◌∷◌, ◌≡◌, ◌≤◌}
pub use Rattle.std.proofs.lemmas.Bool.Decides.{nat_tests}
pub use Rattle.std.proofs.lemmas.Grind.{common_steps, drop_more_same}
pub use Rattle.std.proofs.lemmas.List.{drop-set-lt, get_or-drop, get_or-replicate, length-map, map-append, map-id}
pub use Rattle.std.proofs.lemmas.List.{take_all, take_more, take_more_set}
pub use Rattle.std.proofs.lemmas.List.Elements.{All-cons, All-contains_itself, All-filter, All-map, All-nil, All-push}
pub use Rattle.std.proofs.lemmas.List.Elements.{All-tail, All-weaker, filter-append, filter_map-append, filter_passes}
pub use Rattle.std.proofs.lemmas.List.Quantifiers.{position-Some}
pub use Rattle.std.proofs.lemmas.List.Sums.{count_by-le-length, length-filter, position_or_len_is, sum_by-append}
pub use Rattle.std.proofs.lemmas.List.Sums.{sum_by-cons}
pub use Rattle.std.proofs.lemmas.Nat.{and_mask, and_or_self, be_bytes_4}
pub use Rattle.std.proofs.lemmas.Result.{err_from_is_err_and}
pub use Rattle.std.proofs.lemmas.Slice.Eq.{bytes_eq-Decides}
pub use Rattle.std.specs.List.{cons_option, filter_map, list_all}
pub use Rattle.std.specs.Option.{option_and_then, option_map}
pub use Rattle.std.specs.Prelude.{All, AllPairs, Contains, IfErr, IfOk, IfSome, IsOk, IsSome, MatchResult, count_by}
pub use Rattle.std.specs.Prelude.{filter, if◌then◌else◌, is_none, nat_lt, pos, slice_get, unsigned_abs, unwrap_or, ℤ}
pub use Rattle.std.specs.Prelude.{◌&&◌, ◌<ℤ◌, ◌==◌, ◌↔◌, ◌≢◌, ◌≤ℤ◌, ◌⊎◌}
pub use Rattle.std.specs.Result.{result_ok}
pub use Rattle.std.specs.Str.{bytes_eq}
pub use Rattle.byte_stream.specs.Bytes.{IsBytes}
pub use Rattle.claim_file.specs.Claim.{ClaimData, data_of}
pub use Rattle.era_unfold.specs.Window.{per_second, ticks_per_second}
unfoldable pub use Rattle.era_unfold.specs.Window.{window_high, window_low}
pub use Rattle.era_unfold.specs.declared.unit.Unit.{Unit}
pub use Rattle.indexmap.specs.IndexMap.{get}
pub use Rattle.ntp_packet.specs.Header.{mode_of, origin_of, version_of}
unfoldable pub use Rattle.ntp_packet.specs.Header.{root_distance_of}
pub use Rattle.ntp_packet.specs.Packet.{Packet, ntp_port, packet_of}
pub use Rattle.pcap_reader.specs.Capture.{IsLawfulHead, Record, most_records}
pub use Rattle.pcap_reader.specs.Remaining.{Coming}
pub use Rattle.pcap_reader.specs.Source.{IsNext, IsStep, SourceState, TakesFrom-trans, read_failed}
pub use Rattle.pcap_reader.specs.declared.format.RecordHead.{RecordHead}
pub use Rattle.pairing.specs.Answer.{AreGiven, IsAnswerTo, IsFromOutside, IsGiven, LeavesSource, MayAnswer}
pub use Rattle.pairing.specs.Answer.{capture_failed, device_failed}
unfoldable pub use Rattle.pairing.specs.Answer.{answer_of}
pub use Rattle.pairing.specs.Compact.{compact_data, compact_of, shown_with}
unfoldable pub use Rattle.pairing.specs.Compact.{exchange_shown}
pub use Rattle.pairing.specs.Counts.{HasRoom, IsJoined, count_for, with_leap, with_outcome, with_refusal, zero_counts}
pub use Rattle.pairing.specs.Exchange.{AreLawful, most_exchanges}
pub use Rattle.pairing.specs.Gathering.{IsGathered, IsGatheredFrom, compact_in, counts_with, indexed_in, is_accepted}
pub use Rattle.pairing.specs.Gathering.{is_early, is_for}
pub use Rattle.pairing.specs.Index.{Finds, Indexes, found_in, having, indexed_of, indexed_with, key_of, place_at}
pub use Rattle.pairing.specs.Index.{place_of, same_key}
pub use Rattle.pairing.specs.Join.{exchange_by, outcome_by, outcomes_by, request_at, request_by}
pub use Rattle.pairing.specs.Message.{IsReplyOf, IsRequestTo, Reply, Request, client_mode, is_reply, is_request}
pub use Rattle.pairing.specs.Message.{reply_from, reply_in, request_in, request_to, server_at, server_mode}
unfoldable pub use Rattle.pairing.specs.Message.{reply_of, replying_server, request_of, requested_server}
pub use Rattle.pairing.specs.Pairing.{Collection, answers, distance_of, exchange_of, high_of, is_refused, is_warning}
pub use Rattle.pairing.specs.Pairing.{outcome_of, outcomes_of, paired, refused_for, requests_for, unless_refused}
unfoldable pub use Rattle.pairing.specs.Pairing.{collection_of, counts_of, exchanges_of, replies_of, requests_of}
pub use Rattle.pairing.specs.Reading.{Continues, Gathers, IsRead, IsWhole}
pub use Rattle.pairing.specs.Refusal.{refusal_of, same_refusal}
pub use Rattle.pairing.specs.Sources.{common_reference, is_source, source_count}
pub use Rattle.pairing.specs.Statement.{message_of_reply, message_in}
unfoldable pub use Rattle.pairing.specs.Statement.{message_of}
pub use Rattle.pairing.specs.declared.compact.CompactExchange.{CompactExchange}
pub use Rattle.pairing.specs.declared.compact.CompactRequest.{CompactRequest}
pub use Rattle.pairing.specs.declared.compact.CompactRequest.TheVariants.{Found, Named}
pub use Rattle.pairing.specs.declared.counts.Counts.{Counts}
pub use Rattle.pairing.specs.declared.exchange.Exchange.{Exchange}
pub use Rattle.pairing.specs.declared.fault.PairFault.{PairFault}
pub use Rattle.pairing.specs.declared.fault.PairFault.TheVariants.{Capture, Memory, TooManyExchanges}
pub use Rattle.pairing.specs.declared.index.IndexedRequest.{IndexedRequest}
pub use Rattle.pairing.specs.declared.index.Key.{Key}
pub use Rattle.pairing.specs.declared.index.Place.{Place}
pub use Rattle.pairing.specs.declared.message.Message.{Message}
pub use Rattle.pairing.specs.declared.refusal.Refusal.{Refusal}
pub use Rattle.pairing.specs.declared.refusal.Refusal.TheVariants.{Ambiguous, Leap, NoRequest, Precision, Stratum}
pub use Rattle.pairing.specs.declared.refusal.Refusal.TheVariants.{Version, ZeroStamp}
