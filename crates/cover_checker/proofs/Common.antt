-- What the proofs of this crate name from elsewhere.
pub use Rattle.std.proofs.Common.{Bool, Err, List, None, Ok, Option, Result, Some, [], ap, arith, cond, count_by, drop}
pub use Rattle.std.proofs.Common.{false, get_or, inl, inr, int_le, int_lt, length, map, nat_lt, neg_ℤ, negsuc, not, pos}
pub use Rattle.std.proofs.Common.{refl, rules, slice_get, subst, suc, sym, true, unsigned_abs, zero, ℕ, ℤ, ⊎_elim, ◌&&◌}
pub use Rattle.std.proofs.Common.{◌*ℤ◌, ◌*◌, ◌++◌, ◌+ℤ◌, ◌+◌, ◌-ℤ◌, ◌-◌, ◌<ℤ◌, ◌<◌, ◌||◌, ◌∙◌, ◌∷◌, ◌≡◌, ◌≢◌, ◌≤ℤ◌, ◌≤◌}
pub use Rattle.std.proofs.Common.{◌⊎◌}
pub use Rattle.std.proofs.Math.Seq.{drop-cons}
pub use Rattle.std.proofs.lemmas.Bool.{and_parts, and_from, cond-false, cond-true, or_parts}
pub use Rattle.std.proofs.lemmas.Bool.Decides.{nat_tests}
pub use Rattle.std.proofs.lemmas.Int.{by_lt_z, clamps, ints}
pub use Rattle.std.proofs.lemmas.List.Elements.{All-nil, All-push}
pub use Rattle.std.proofs.lemmas.Option.{get_or_from_slice_get, slice_get-get_or, slice_get_within}
pub use Rattle.std.specs.Int.{int_max}
pub use Rattle.std.specs.List.{list_any}
pub use Rattle.std.specs.Prelude.{All, slice_index, ◌==◌, ◌↔◌}
pub use Rattle.certificate.specs.Certificate.{PieceData}
pub use Rattle.cover_certificate.specs.CoverCertificate.{CaseData, CoverCertificateData}
pub use Rattle.checker.specs.Course.{ArrivesBeforeStamp, ComesInOrder, Course, Fits, IsClientMoment, KeepsRootDistance}
pub use Rattle.checker.specs.Course.{LeavesAfterStamp}
pub use Rattle.checker.specs.Groups.{false_group_count, holds_false}
pub use Rattle.checker.specs.Stretch.{begin_of, last_end, stretches_from}
pub use Rattle.checker.specs.Traceability.{IsInHull, IsObservedIn, IsWithin}
pub use Rattle.claim_file.specs.Claim.{ClaimData, IsLawful}
pub use Rattle.error_marks.specs.Mark.{AreCompatible, IsPossible, high_mark, low_mark}
pub use Rattle.error_marks.specs.declared.mark.Mark.{Mark}
pub use Rattle.feasibility.specs.Conflicts.{ConflictData, IsCover, group_count, is_pair}
pub use Rattle.feasibility.specs.Contradiction.{IsImpossiblePair}
pub use Rattle.feasibility.specs.Cover.{group_of, size_of}
pub use Rattle.feasibility.specs.CoverSearch.{Covers, IsBusiest, IsSimple, degree, edge_of, neighbour}
pub use Rattle.feasibility.specs.Keeping.{KeepsHigh, KeepsLow}
pub use Rattle.feasibility.specs.Members.{LieWithin, has}
unfoldable pub use Rattle.feasibility.specs.Members.{passing}
pub use Rattle.intersection.specs.Fineness.{times-add, times_le}
pub use Rattle.intersection.specs.Fraction.{HoldsFraction, HullHoldsFraction, IsAdmissibleFraction}
pub use Rattle.intersection.specs.Hull.{IsHull}
pub use Rattle.intersection.specs.declared.kinds.Hull.TheVariants.{Bounded}
pub use Rattle.pairing.specs.Exchange.{IsLawful as IsLawfulExchange}
pub use Rattle.pairing.specs.declared.exchange.Exchange.{Exchange}
pub use Rattle.sample_interval.specs.Moment.{DriftsWithin, IsInWindow, Moment, error_of}
pub use Rattle.sample_interval.specs.Widening.{IsRate, billion}
unfoldable pub use Rattle.sample_interval.specs.Widening.{widening}
pub use Rattle.sample_interval.specs.Window.{reply_end, request_start}
pub use Rattle.span_cover.specs.Group.{group_intervals, numbers_below}
pub use Rattle.span_cover.specs.declared.part.Part.{Part}
pub use Rattle.span_cover.specs.declared.stretch.Stretch.{Stretch}
pub use Rattle.lemma_base.proofs.Bool.{by_test}
pub use Rattle.lemma_base.proofs.Int.{≤ℤ_trans_twice}
pub use Rattle.lemma_base.proofs.List.{All-slice_get}
pub use Rattle.cover_checker.specs.Acceptance.{CaseHolds, IsAccepted, ShowBound}
pub use Rattle.cover_checker.specs.Conflict.{AreAnswered, HoldsCase, HoldsEnd, IsConflict, names}
pub use Rattle.cover_checker.specs.CoverSearch.{HoldsOne, IsCoverWithout, data_of}
pub use Rattle.cover_checker.specs.Entry.{part_from, parts_after, unless_refused}
pub use Rattle.cover_checker.specs.Interval.{ahead, fall, high_over, low_over, part_of}
unfoldable pub use Rattle.cover_checker.specs.Interval.{rise}
pub use Rattle.cover_checker.specs.NamedFit.{FitsNamed, HasFewFalse, IsNamedMoment, OfEachNamed}
pub use Rattle.cover_checker.specs.Traceability.{IsInConflict, IsInPiece, IsNamed, IsTraceable, IsTraceableByCovers}
pub use Rattle.cover_checker.specs.declared.verdict.PieceWhy.{PieceWhy}
pub use Rattle.cover_checker.specs.declared.verdict.PieceWhy.TheVariants.{LeftOut, Of}
