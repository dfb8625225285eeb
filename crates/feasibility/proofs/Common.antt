-- What the proofs of this crate name from elsewhere.
pub use Rattle.std.proofs.Common.{Bool, Global, IsPermutation, List, None, Option, Some, Vec, [], ap, append_assoc, ap₂}
pub use Rattle.std.proofs.Common.{arith, below_more, bit_and, bit_or, cond, count_by, drop, eq-eqb, false, get_or}
pub use Rattle.std.proofs.Common.{get_or-set_other, get_or-set_same, inl, inr, int_lt, length, length-set, map, min}
pub use Rattle.std.proofs.Common.{negsuc, not, of_z, pos, pow-suc, refl, rules, set, slice_get, subst, suc, sym, to_z}
pub use Rattle.std.proofs.Common.{true, true≢false, unsigned_abs, w32, zero, ℕ, ℤ, ⊎_elim, ◌%◌, ◌&&◌, ◌*ℤ◌, ◌*◌, ◌++◌}
pub use Rattle.std.proofs.Common.{◌+ℤ◌, ◌+◌, ◌-ℤ◌, ◌-◌, ◌/◌, ◌<ℤ◌, ◌<◌, ◌^◌, ◌||◌, ◌∙◌, ◌∷◌, ◌≡◌, ◌≢◌, ◌≤ℤ◌, ◌≤◌, ◌⊎◌}
pub use Rattle.std.proofs.Math.Bool.{or-false, or_comm}
pub use Rattle.std.proofs.Math.ListN.{drop_of_length-le, get_or-append, length-append}
pub use Rattle.std.proofs.Math.Nat.{le_of_mul-le-mul_right, lt_of_mul-lt-mul_right, mul-le-mul_left, mul-le-mul_right}
pub use Rattle.std.proofs.Math.Seq.{append_snoc, drop-cons, get_or-append_seam}
pub use Rattle.std.proofs.lemmas.Bool.{and_parts, cases_lt, cond-false, cond-true, and_from, ne_eqb, not-true, or_cases}
pub use Rattle.std.proofs.lemmas.Bool.{or_from, or_left, or_parts, eqb-true, false_from_ne_true}
pub use Rattle.std.proofs.lemmas.Bool.Decides.{nat_tests}
pub use Rattle.std.proofs.lemmas.Grind.{get_or_default_zero}
pub use Rattle.std.proofs.lemmas.Int.{by_lt_z, clamps, ints, unsigned_abs-mul}
pub use Rattle.std.proofs.lemmas.List.{get_or-append_right, get_or-map, get_or_append_left, get_or_default, length-map}
pub use Rattle.std.proofs.lemmas.List.{map_push, with_items_is}
pub use Rattle.std.proofs.lemmas.List.Elements.{All-append, All-cons, All-head, All-map, All-nil, All-push, All-same}
pub use Rattle.std.proofs.lemmas.List.Elements.{All-tail, All-weaker}
pub use Rattle.std.proofs.lemmas.List.Sums.{AllPass-from_list_all, list_all-from_AllPass}
pub use Rattle.std.proofs.lemmas.Nat.Bits.{bit_at-lt, bit_at-pow_other, bit_at-pow_same, bit_at-suc, bit_at-zero}
pub use Rattle.std.proofs.lemmas.Nat.Bits.{bit_at_above, bit_at_and, bit_at_not, bit_at_ones, bit_at_ones_above}
pub use Rattle.std.proofs.lemmas.Nat.Bits.{bit_at_or}
pub use Rattle.std.proofs.lemmas.Option.{get_or_from_slice_get, slice_get-get_or, slice_get_within}
pub use Rattle.std.proofs.lemmas.Result.{IfOk-weaker}
pub use Rattle.std.specs.Int.{bit_at, bit_not, int_max, int_min}
pub use Rattle.std.specs.Int.Signed.{≤ℤ_refl}
pub use Rattle.std.specs.List.{list_all, list_any, slice_index_or}
pub use Rattle.std.specs.Prelude.{All, AllPairs, Any, IsTrue, MatchOption, filter, fold, int_le, nat_lt, slice_index}
pub use Rattle.std.specs.Prelude.{◌==◌, ◌↔◌}
pub use Rattle.certificate.specs.Refutation.{RefutationData}
pub use Rattle.checker.proofs.Counting.{counted, fails_below, second_fails}
pub use Rattle.checker.proofs.Exchange.{are_samples}
pub use Rattle.checker.proofs.Separation.{count_push}
pub use Rattle.checker.specs.Course.{ComesInOrder, Course, Fits, FitsInWindows, IsClientMoment, KeepsRootDistance}
pub use Rattle.checker.specs.Course.{ReadsInWindows}
pub use Rattle.checker.specs.Groups.{false_group_count, holds_false}
pub use Rattle.checker.specs.Refutation.{Admits, AdmitsError, IsAgainst, IsRefuted, SharesRequests, is_liar}
pub use Rattle.checker.specs.Traceability.{IsObservedIn, IsTraceable, IsWithin, samples_of}
pub use Rattle.claim_file.specs.Claim.{ClaimData, data_of}
pub use Rattle.intersection.specs.Fineness.{times-add, times_le}
pub use Rattle.error_marks.specs.Mark.{AreCompatible, IsPossible, high_mark, low_mark}
pub use Rattle.error_marks.specs.Range.{IsWithinRange}
pub use Rattle.error_marks.specs.declared.mark.Mark.{Mark}
pub use Rattle.pairing.specs.Exchange.{IsLawful, SameRequest}
pub use Rattle.pairing.specs.declared.exchange.Exchange.{Exchange}
pub use Rattle.sample_interval.specs.Moment.{DriftsWithin, IsWithinDistance, Moment, error_change, error_of}
pub use Rattle.sample_interval.specs.Widening.{billion}
pub use Rattle.sample_interval.specs.Window.{reply_end, reply_start, request_end, request_start}
pub use Rattle.span_cover.specs.Group.{numbers_below}
pub use mir.Syntax.{w128}
pub use Rattle.feasibility.specs.ConflictTable.{HasSmallTableCover, IsConflictTable, IsTableCover}
pub use Rattle.feasibility.specs.Conflicts.{ConflictData, HasCover, HoldsNoLess, IsCover, group_count, is_pair}
pub use Rattle.feasibility.specs.Contradiction.{AreAllConflicts, AreListed, AreOfGroups, HasContradiction, HoldsAnEnd}
pub use Rattle.feasibility.specs.Contradiction.{IsBefore, IsContradiction, IsFirstContradiction, IsNoLater, Pair}
pub use Rattle.feasibility.specs.Contradiction.{ShownConflict}
pub use Rattle.feasibility.specs.Cover.{Contradicts, DoConflict, HasImpossible, HasSmallCover, IsBroken, SomeCourse}
pub use Rattle.feasibility.specs.Cover.{SomeCourseAt, group_of, is_of, servers_of, size_of}
pub use Rattle.feasibility.specs.CoverSearch.{AreNeeded, Covers, HasCoverOf, IsBusiest, IsSimple, degree, edge_of}
pub use Rattle.feasibility.specs.CoverSearch.{neighbour}
pub use Rattle.feasibility.specs.DriftRefutation.{HasDriftCourse, IsCompatibleWith, IsObservedOff, IsRefutedByMarks}
pub use Rattle.feasibility.specs.DriftRefutation.{IsRefutedWithDrift, Shows, mark_of}
pub use Rattle.feasibility.specs.DriftTest.{all_compatible, are_compatible, do_agree, do_all_agree, is_possible}
pub use Rattle.feasibility.specs.DriftTest.{is_refuted_with_drift}
pub use Rattle.feasibility.specs.ServedGroups.{IsNoEvidence, IsPossibleError, count_with_exchange, has_exchange}
pub use Rattle.feasibility.specs.GroupMarks.{DoGroupsAgree, IsSound, group_exchanges, group_highs, group_lows}
pub use Rattle.feasibility.specs.GroupMarks.{is_outside}
pub use Rattle.feasibility.specs.Groups.{Adds, AreApart, HoldsOne, HoldsOneOr64, IsFound, holds}
pub use Rattle.feasibility.specs.Keeping.{KeepsHigh, KeepsLow, time_of}
pub use Rattle.feasibility.specs.LowestCourse.{error_left, fineness_of, lowest_course, lowest_error, lowest_moment}
pub use Rattle.feasibility.specs.LowestCourse.{most_fall, most_rise, of_exchange}
pub use Rattle.feasibility.specs.Members.{LieWithin, has}
unfoldable pub use Rattle.feasibility.specs.Members.{passing}
pub use Rattle.feasibility.specs.NumberedMarks.{AreGrounds, AreNumberedInOrder, AreNumberedOf, IsFirstApart}
pub use Rattle.feasibility.specs.NumberedMarks.{IsFirstIfAny, IsNumbered, group_numbers, numbers_from}
pub use Rattle.feasibility.specs.PairMarks.{IsFirstImpossible, IsImpossibleAt, conflict_data, earlier, is_no_later}
pub use Rattle.feasibility.specs.PairMarks.{pair_of, twice}
pub use Rattle.feasibility.specs.PartialTable.{AreTried, IsTableTo}
pub use Rattle.feasibility.specs.ShownConflicts.{AreListedUpto, IsAhead, IsListingOf, is_listed}
pub use Rattle.feasibility.specs.SortedMarks.{AreAllSorted, AreMarksOf, AreOfGroupsInOrder, AreSorted}
pub use Rattle.feasibility.specs.TrueMarks.{AreAllCompatible, DoAgree, FitsWithFalse, high_marks, low_marks}
pub use Rattle.feasibility.specs.TrueMarks.{true_exchanges}
pub use Rattle.feasibility.specs.declared.groups.Groups.{Groups}
pub use Rattle.feasibility.specs.declared.kept_marks.KeptMarks.{KeptMarks}
pub use Rattle.feasibility.specs.declared.shown_conflicts.Conflict.{Conflict}
pub use Rattle.intersection.proofs.Fractions.{le_from_times}
pub use Rattle.lemma_base.proofs.Bool.{by_test}
pub use Rattle.lemma_base.proofs.Int.{int_max-least, ≤ℤ_antisymm, ≤ℤ_trans, ≤ℤ_trans_twice, le-int_le, ≤ℤ-<ℤ_trans}
pub use Rattle.lemma_base.proofs.List.{All-map_back, All-slice_get, slice_get-below}
pub use Rattle.lemma_base.proofs.Nat.{lt_next_cases, not_lt_zero}
pub use Rattle.error_marks.proofs.Compatibility.{compatible_in_order}
pub use Rattle.error_marks.proofs.MarkPair.{not_both}
