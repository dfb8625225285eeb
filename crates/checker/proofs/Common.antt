-- What the proofs of this crate name from elsewhere.
pub use Rattle.std.proofs.Common.{Bool, Err, IfSome, List, None, Ok, Option, Result, Some, [], ap, ap₂, arith, cond}
pub use Rattle.std.proofs.Common.{count_by, drop, false, get_or, if◌then◌else◌, inl, inr, int_le, int_lt, length, map}
pub use Rattle.std.proofs.Common.{nat_lt, neg_ℤ, not, of_z, pos, refl, rules, subst, suc, sym, take, to_z, true}
pub use Rattle.std.proofs.Common.{true≢false, unsigned_abs, zero, ℕ, ℤ, ⊎_elim, ◌&&◌, ◌*ℤ◌, ◌*◌, ◌++◌, ◌+ℤ◌, ◌+◌, ◌-ℤ◌}
pub use Rattle.std.proofs.Common.{◌-◌, ◌<ℤ◌, ◌<◌, ◌^◌, ◌||◌, ◌↔◌, ◌∙◌, ◌∷◌, ◌≡◌, ◌≢◌, ◌≤ℤ◌, ◌≤◌, ◌⊎◌}
pub use Rattle.std.proofs.Math.Bool.{or-false, or_assoc}
pub use Rattle.std.proofs.lemmas.Bool.{and_from, and_left, and_parts, and_right, cond-false, cond-true, not-true}
pub use Rattle.std.proofs.lemmas.Bool.{ne_eqb, or_parts, true_from_ne_false, le-leb, leb-true, lt-ltb, ltb-true}
pub use Rattle.std.proofs.lemmas.Bool.Decides.{nat_tests}
pub use Rattle.std.proofs.lemmas.Int.{by_lt_z, clamps, ints, to_z-of_z, unsigned_abs-mul}
pub use Rattle.std.proofs.lemmas.List.{append-nil, append_assoc, get_or-map, get_or_default, length-map}
pub use Rattle.std.proofs.lemmas.List.Elements.{All-cons, All-get_or, All-map, All-nil, AllZip-get_or, AllZip-push}
pub use Rattle.std.proofs.lemmas.List.Elements.{filter-append, length_all_zip, recursion_from_All}
pub use Rattle.std.proofs.lemmas.List.Folds.{Any-from_list_any, list_any-append, list_any_at, list_any_none}
pub use Rattle.std.proofs.lemmas.List.Sums.{AllPass-from_list_all, fold-append, list_all-from_AllPass, sum_by-append}
pub use Rattle.std.proofs.lemmas.List.Sums.{sum_by-cons, sum_by-le-sum_by}
pub use Rattle.std.proofs.lemmas.Map.Keys.{any_passes_from_place}
pub use Rattle.std.proofs.lemmas.Option.{get_or_from_slice_get, slice_get-get_or, slice_get-map, slice_get_read}
pub use Rattle.std.proofs.lemmas.Option.{slice_get_within}
pub use Rattle.std.specs.Int.{int_max, int_min}
pub use Rattle.std.specs.List.{AllByRecursion, AllZip, Any, cons_option, list_all, list_any, range_with_len}
pub use Rattle.std.specs.List.{slice_index_or}
pub use Rattle.std.specs.Option.{option_and_then, option_map}
pub use Rattle.std.specs.Ordering.{int_eq}
pub use Rattle.std.specs.Prelude.{All, AllPairs, IsSomeAnd, IsTrue, filter, filter_map, fold, nat_le, slice_get}
pub use Rattle.std.specs.Prelude.{slice_index, ⊤, ◌==◌}
pub use Rattle.certificate.specs.Certificate.{CertificateData, PieceData, piece_data}
pub use Rattle.certificate.specs.Refutation.{RefutationData}
pub use Rattle.claim_file.specs.Claim.{ClaimData, IsLawful, data_of}
pub use Rattle.claim_file.specs.Worked.{worked_claim, worked_second}
pub use Rattle.era_unfold.specs.Window.{ticks_per_second}
unfoldable pub use Rattle.era_unfold.specs.Window.{window_high, window_low}
pub use Rattle.intersection.specs.Fineness.{times-add, times_le}
pub use Rattle.intersection.specs.Fraction.{HoldsFraction, HullHoldsFraction, IsAdmissibleFraction, leaves_fraction_out}
pub use Rattle.intersection.specs.Hull.{IsAdmissible, IsHull, hull_of}
pub use Rattle.intersection.specs.Interval.{leaves_out}
pub use Rattle.intersection.specs.declared.kinds.Hull.{Hull}
pub use Rattle.intersection.specs.declared.kinds.Hull.TheVariants.{Bounded, Empty, Unbounded}
pub use Rattle.intersection.specs.declared.kinds.Interval.{Interval}
pub use Rattle.pairing.specs.Exchange.{SameRequest}
pub use Rattle.pairing.specs.declared.exchange.Exchange.{Exchange}
pub use Rattle.sample_interval.specs.Moment.{DriftsWithin, DriftsWithinByReading, IsInWindow, IsOffAtLeast, IsOffAtMost}
pub use Rattle.sample_interval.specs.Moment.{IsWithinDistance, Moment, error_of}
pub use Rattle.sample_interval.specs.Sample.{IsLawfulSample, greatest_error, least_error, sample_of}
pub use Rattle.sample_interval.specs.Widening.{IsRate, billion}
pub use Rattle.sample_interval.specs.Window.{reply_end, request_start}
pub use Rattle.sample_interval.specs.declared.kinds.Sample.{Sample}
pub use Rattle.span_cover.specs.Group.{group_interval, group_intervals, is_inside, meet_of, narrowed, numbers_below}
pub use Rattle.span_cover.specs.Group.{piece_hull}
pub use Rattle.span_cover.specs.Part.{part_of}
pub use Rattle.span_cover.specs.Piece.{IsPiece, moved_high, moved_low, piece_interval_of}
pub use Rattle.span_cover.specs.declared.part.Part.{Part}
pub use Rattle.span_cover.specs.declared.stretch.Stretch.{Stretch}
pub use mir.Syntax.{w128, w64}
pub use Rattle.checker.specs.Acceptance.{AreSaidBy, IsAccepted, IsSaidBy, ShowBound}
pub use Rattle.checker.specs.BestParts.{best_part, best_parts, said_by}
pub use Rattle.checker.specs.Comparison.{AreNarrower, HasEntriesSwapped, HasOneMoreEntry, IsContradiction, IsNarrower}
pub use Rattle.checker.specs.Comparison.{IsOfSamples, IsRefusedEntry, IsTakenApart, IsYesOr}
pub use Rattle.checker.specs.Course.{ComesInOrder, Course, Fits, FitsInWindows, IsClientMoment, KeepsRootDistance}
pub use Rattle.checker.specs.Course.{ReadsInWindows}
pub use Rattle.checker.specs.Groups.{false_group_count, holds_false}
pub use Rattle.checker.specs.PieceFit.{FitsPiece, HasFewFalse, OfEachEntry}
pub use Rattle.checker.specs.Refutation.{Admits, AdmitsError, HasCourse, IsAgainst, IsCourseOf, IsRefuted}
pub use Rattle.checker.specs.Refutation.{SharesRequests, ShowsThroughout, SomeCourseFits, is_liar}
pub use Rattle.checker.specs.RefutationTest.{admits, allows, are_different, is_against, is_refuted}
pub use Rattle.checker.specs.Samples.{AreSamplesOf}
pub use Rattle.checker.specs.Stretch.{SomeHoldsReading, begin_of, last_end, stretch_of, stretches_from, stretches_of}
pub use Rattle.checker.specs.Traceability.{HasHull, HoldsError, HoldsErrorOfPiece, IsContradicted, IsInHull}
pub use Rattle.checker.specs.Traceability.{IsObservedIn, IsOfHull, IsRefusedByHull, IsTraceable, IsTraceableByPieces}
pub use Rattle.checker.specs.Traceability.{IsVerdictOn, IsWithin, IsWithinNanoseconds, samples_of}
pub use Rattle.checker.specs.Verdict.{hull_fault, part_from, parts_after, parts_fault, piece_fault, unless_refused}
pub use Rattle.checker.specs.Verdict.{verdict_after, verdict_from, verdict_of}
pub use Rattle.checker.specs.WorkedCourse.{earlier_exchange, lone_course, moment_with, served_course, slow_claim}
pub use Rattle.checker.specs.WorkedCourse.{slow_course, stamped_course, stepped_course, worked_exchange}
pub use Rattle.checker.specs.declared.verdict.Verdict.{Verdict}
pub use Rattle.checker.specs.declared.verdict.Verdict.TheVariants.{No, Yes}
pub use Rattle.checker.specs.declared.verdict.Why.{Why}
pub use Rattle.checker.specs.declared.verdict.Why.TheVariants.{BadSample, Contradiction, Cut, Exceeds, MixedServers}
pub use Rattle.checker.specs.declared.verdict.Why.TheVariants.{RepeatedServer, Uncovered}
pub use Rattle.intersection.proofs.Fractions.{le_from_times}
pub use Rattle.lemma_base.proofs.Bool.{by_test, cond-le_one, or_rest}
pub use Rattle.lemma_base.proofs.Int.{int_le-true, int_max-least, le-int_le, ≤ℤ-sub, ≤ℤ_trans, ≤ℤ_trans_twice}
pub use Rattle.lemma_base.proofs.Int.{int_lt-true, ≤ℤ-from_lt}
pub use Rattle.lemma_base.proofs.List.{All-cons_option, All-slice_get}
pub use Rattle.lemma_base.proofs.Nat.{and-from_equal}
