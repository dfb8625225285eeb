-- What the proofs of this crate name from elsewhere.
pub use Rattle.std.proofs.Common.{Bool, Err, Fits, Global, List, None, Ok, Option, Result, Some, Vec, [], add-one}
pub use Rattle.std.proofs.Common.{add-zero, ap, append_assoc, ap₂, arith, cond, false, get_or, inl, inr, int_le, int_lt}
pub use Rattle.std.proofs.Common.{is_some, le_antisymm, le_trans, length, length-append, map, max, min, nat_le, nat_lt}
pub use Rattle.std.proofs.Common.{neg_ℤ, negsuc, not, of_z, pos, refl, replicate, rules, set, subst, suc, sym, take}
pub use Rattle.std.proofs.Common.{to_z, true, true≢false, unsigned_abs, vec_len, w32, w64, w8, zero, ℕ, ℤ, ⊎_elim, ◌%◌}
pub use Rattle.std.proofs.Common.{◌&&◌, ◌*ℤ◌, ◌*◌, ◌++◌, ◌+ℤ◌, ◌+◌, ◌-ℤ◌, ◌-◌, ◌/◌, ◌<ℤ◌, ◌<◌, ◌^◌, ◌||◌, ◌∙◌, ◌∷◌, ◌≡◌}
pub use Rattle.std.proofs.Common.{◌≢◌, ◌≤ℤ◌, ◌≤◌, ◌⊎◌}
pub use Rattle.std.proofs.Math.Bool.{or-false}
pub use Rattle.std.proofs.Math.Dec.{T}
pub use Rattle.std.proofs.Math.Nat.{le-div_iff_mul-le, mul-le-mul_right, mul-pos}
pub use Rattle.std.proofs.lemmas.Bool.{and_from, and_parts, cases_lt, cond-false, cond-true, lt-ltb, or_cases, or_from}
pub use Rattle.std.proofs.lemmas.Bool.{eq-eqb, le-leb, le-ltb, leb-true, ne_eqb, not-false, not-true, or_parts}
pub use Rattle.std.proofs.lemmas.Bool.Decides.{nat_tests}
pub use Rattle.std.proofs.lemmas.Grind.{common_steps, div_ceil_times}
pub use Rattle.std.proofs.lemmas.Int.{clamps, fits_signed_from_abs, ints, to_z-of_z}
pub use Rattle.std.proofs.lemmas.List.{append-nil, get_or-map, get_or-replicate, length-map, length-set, map-append}
pub use Rattle.std.proofs.lemmas.List.{take_all, take_more}
pub use Rattle.std.proofs.lemmas.List.Elements.{All-append, All-cons, All-filter, All-head, All-nil, All-push, All-tail}
pub use Rattle.std.proofs.lemmas.List.Elements.{filter-append, filter_map-append}
pub use Rattle.std.proofs.lemmas.List.Folds.{Any-from_list_any, list_any-append, list_any-from_Any}
pub use Rattle.std.proofs.lemmas.List.FromFn.{get_or-map-range_with_len, length-map-range_with_len}
pub use Rattle.std.proofs.lemmas.List.FromFn.{map-range_with_len_more}
pub use Rattle.std.proofs.lemmas.Nat.{div-mul-add}
pub use Rattle.std.proofs.lemmas.Option.{get_or_from_slice_get, slice_get-get_or, slice_get_read, slice_get_within}
pub use Rattle.std.specs.Int.{div_ceil, int_max, int_min}
pub use Rattle.std.specs.Int.Signed.{non_neg, yes_non_neg}
pub use Rattle.std.specs.List.{cons_option, filter_map, find, list_any, range_with_len}
pub use Rattle.std.specs.Ordering.{int_eq}
pub use Rattle.std.specs.Prelude.{All, AllPairs, Any, IfNone, IsErrAnd, IsSomeAnd, IsTrue, MatchOption, count_by}
pub use Rattle.std.specs.Prelude.{filter, option_map, slice_get, slice_index, ◌==◌, ◌↔◌}
pub use Rattle.certificate.specs.Certificate.{CertificateData, PieceData, max_pieces, piece_data}
pub use Rattle.certificate.specs.Refutation.{RefutationData}
pub use Rattle.certificate.specs.declared.certificate.Certificate.{Certificate}
pub use Rattle.checker.proofs.Counting.{found_below}
pub use Rattle.checker.proofs.Narrow.{no_fewer_groups, still_left_out}
pub use Rattle.checker.proofs.NoOverflow.{bound_kept, first_kept, last_kept, reading_kept}
pub use Rattle.checker.proofs.Separation.{all_counted, meet_leaves_it_out}
pub use Rattle.checker.specs.Comparison.{AreNarrower, IsNarrower, IsOfSamples}
pub use Rattle.checker.specs.Course.{Course}
pub use Rattle.checker.specs.Groups.{false_group_count, holds_false}
pub use Rattle.checker.specs.Refutation.{Admits, IsRefuted, is_liar}
pub use Rattle.checker.specs.RefutationTest.{admits, are_different}
pub use Rattle.checker.specs.Samples.{AreSamplesOf}
pub use Rattle.checker.specs.Stretch.{begin_of, last_end, stretches_from}
pub use Rattle.checker.specs.Traceability.{HoldsError, IsContradicted, IsInHull, IsObservedIn, samples_of}
pub use Rattle.checker.specs.Verdict.{hull_fault, part_from, parts_after, parts_fault, piece_fault, unless_refused}
pub use Rattle.checker.specs.Verdict.{verdict_after, verdict_from, verdict_of}
pub use Rattle.checker.specs.declared.verdict.Verdict.{Verdict}
pub use Rattle.checker.specs.declared.verdict.Verdict.TheVariants.{No, Yes}
pub use Rattle.checker.specs.declared.verdict.Why.{Why}
pub use Rattle.checker.specs.declared.verdict.Why.TheVariants.{Cut, Exceeds, Uncovered}
pub use Rattle.claim_file.specs.Claim.{ClaimData, IsLawful, data_of, max_bound, max_bound_ns, max_drift_ppb, with_bound}
pub use Rattle.claim_file.specs.Group.{servers_of}
pub use Rattle.feasibility.specs.Cover.{HasSmallCover, IsCover, SomeCourse, group_of, size_of}
pub use Rattle.feasibility.specs.Groups.{AreApart, HoldsOne, HoldsOneOr64, holds}
pub use Rattle.era_unfold.specs.Nanoseconds.{nanoseconds_per_second, ticks_down}
pub use Rattle.era_unfold.specs.Ratio.{IsCeiling}
unfoldable pub use Rattle.era_unfold.specs.Ratio.{ceiling_of}
pub use Rattle.era_unfold.specs.Window.{ticks_per_second}
pub use Rattle.intersection.specs.Interval.{leaves_out}
pub use Rattle.intersection.specs.declared.kinds.Hull.{Hull}
pub use Rattle.intersection.specs.declared.kinds.Hull.TheVariants.{Bounded, Empty, Unbounded}
pub use Rattle.intersection.specs.declared.kinds.Interval.{Interval}
pub use Rattle.error_marks.specs.Mark.{AreCompatible, high_mark, low_mark}
pub use Rattle.error_marks.specs.declared.mark.Mark.{Mark}
pub use Rattle.pairing.specs.declared.exchange.Exchange.{Exchange}
pub use Rattle.sample_interval.specs.Sample.{IsLawfulSample}
pub use Rattle.sample_interval.specs.Widening.{billion}
pub use Rattle.sample_interval.specs.declared.kinds.Sample.{Sample}
pub use Rattle.span_cover.specs.Gathering.{Gathered}
pub use Rattle.span_cover.specs.Group.{group_intervals, is_inside, numbers_below, piece_hull}
pub use Rattle.span_cover.specs.Part.{part_of}
pub use Rattle.span_cover.specs.Piece.{IsPiece}
pub use Rattle.span_cover.specs.Step.{piece_end_of}
pub use Rattle.span_cover.specs.declared.part.Part.{Part}
pub use Rattle.span_cover.specs.declared.stretch.Stretch.{Stretch}
pub use Rattle.sweep.specs.Pieces.{ArePieces, IsPieceAt}
pub use mir.Syntax.{w128}
pub use mir.Val.{SFits}
pub use Rattle.finder.specs.Answer.{Finds, FindsEnvelope}
pub use Rattle.finder.specs.Carried.{FindsLeastBound, GetStuck, HoldsTick, IsCarried, IsFirst, IsNeverEmpty, IsTick}
pub use Rattle.finder.specs.Carried.{StopsAt, piece_holding}
pub use Rattle.finder.specs.Entry.{AreNamed, best_entries, best_over, part_between, part_named, parts_named}
unfoldable pub use Rattle.finder.specs.Entry.{best_hull}
pub use Rattle.finder.specs.Envelope.{AreInside, EnvelopeData, HasNoEnds, IsBelowLimit, IsCertified, IsFirstInNeed}
pub use Rattle.finder.specs.Envelope.{IsFirstWithout, IsInside, IsLawfulEnvelope, IsLawfulPiece, IsLeast, IsLeastBound}
pub use Rattle.finder.specs.Envelope.{IsNotCertified, PieceHullData, envelope_to, least_of, nanoseconds_of}
pub use Rattle.finder.specs.Envelope.{piece_hull_at, piece_hulls, reach_of, with_need, with_piece}
unfoldable pub use Rattle.finder.specs.Envelope.{envelope_of}
pub use Rattle.finder.specs.Fewest.{AreLongest, IsLongest, IsNoWider, IsOfLongest, IsStuck, IsTooLong, NoneIsAccepted}
pub use Rattle.finder.specs.Fewest.{NoneOfFewIsAccepted, end_after, hull_over, next_tick, piece_over, pieces_over}
pub use Rattle.finder.specs.Fewest.{shows, stretch_over}
pub use Rattle.finder.specs.Found.{IsFirstFailing, certificate, first_failing, found_without, hull_at, nothing, passes}
pub use Rattle.finder.specs.Found.{piece_at, pieces_from}
unfoldable pub use Rattle.finder.specs.Found.{found_of}
pub use Rattle.finder.specs.Leeway.{AreHeld, AreLeeways, DoLet, HasFalse, HoldsFor, IsBounded, IsCandidate, IsHeld}
pub use Rattle.finder.specs.Leeway.{IsHeldAtAll, IsMade, IsNarrowed, IsOff, IsRounded, IsTightest, IsUnlimited, Lets}
pub use Rattle.finder.specs.Leeway.{greatest_of, leeway_in, least_on, mark_at, no_limit, turned}
pub use Rattle.finder.specs.NearestRefutation.{IsErrorOf64Bits, IsFirstBeyond, IsNearest, IsNearestRefutation}
pub use Rattle.finder.specs.NearestRefutation.{NoneIsRefuted, after, greatest_error, is_possible, least_error_below}
pub use Rattle.finder.specs.NearestRefutation.{nearest, refutation_at}
unfoldable pub use Rattle.finder.specs.NearestRefutation.{nearest_error}
pub use Rattle.finder.specs.Neediest.{AreHalves, IsBoundless, IsGap, IsInSpan, IsNeediest, IsWithin, NeedsAtMost}
pub use Rattle.finder.specs.Neediest.{NoneNeedsMore, gap_between, has_say, need_of, tick_without}
unfoldable pub use Rattle.finder.specs.Neediest.{hull_without}
pub use Rattle.finder.specs.Piece.{IsPieceCount, count_of, ends_of, piece_begin_of, stretch_at}
unfoldable pub use Rattle.finder.specs.Piece.{piece_count_of}
pub use Rattle.finder.specs.Reach.{AreEnds, AreTablesFor, IsReach, OfTables}
pub use Rattle.finder.specs.Refusal.{HoldsWhole, NoneIsAcceptedOver}
pub use Rattle.finder.specs.Room.{AreRooms, IsNear, IsRoom, possible_by, refused_by, refuses, room_at}
pub use Rattle.finder.specs.TickParts.{best_part, best_parts}
pub use Rattle.finder.specs.declared.fault.FindFault.{FindFault}
pub use Rattle.finder.specs.declared.fault.FindFault.TheVariants.{Memory, TooManyPieces}
pub use Rattle.finder.specs.declared.least.LeastBound.{LeastBound}
pub use Rattle.finder.specs.declared.least.LeastBound.TheVariants.{Holds, NoneHolds}
pub use Rattle.finder.specs.declared.side.Side.{Side}
pub use Rattle.finder.specs.declared.side.Side.TheVariants.{Above, Below}
pub use Rattle.lemma_base.proofs.Bool.{by_test}
pub use Rattle.lemma_base.proofs.Int.{int_lt-false, w128_keeps, w128_keeps_difference, ≤ℤ-from_equal, ≤ℤ_antisymm}
pub use Rattle.lemma_base.proofs.List.{All-cons_option, All-map_back, All-slice_get, range_with_len_more}
pub use Rattle.lemma_base.proofs.Nat.{not_lt_zero}
