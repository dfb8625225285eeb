-- What the definitions and contracts of this crate name of others.
pub use Rattle.certificate.specs.Certificate.{PieceData, max_pieces, piece_data}
pub use Rattle.cover_certificate.specs.CoverCertificate.{CaseData, CoverCertificateData, IsFew, case_data, max_cases, max_conflicts}
pub use Rattle.cover_certificate.specs.CoverCertificate.{data_of as certificate_data}
pub use Rattle.certificate.specs.Refutation.{RefutationData}
pub use Rattle.checker.specs.Course.{ArrivesBeforeStamp, ComesInOrder, Course, Fits, KeepsRootDistance, LeavesAfterStamp}
pub use Rattle.checker.specs.Refutation.{IsRefuted}
pub use Rattle.checker.specs.Stretch.{begin_of, last_end}
pub use Rattle.checker.specs.Groups.{holds_false}
pub use Rattle.checker.specs.Traceability.{IsInHull, IsObservedIn, IsWithin}
pub use Rattle.checker.specs.Verdict.{hull_fault}
pub use Rattle.checker.specs.declared.verdict.Why.{Why}
pub use Rattle.checker.specs.declared.verdict.Why.TheVariants.{BadSample, Cut, MixedServers, RepeatedServer, Uncovered}
pub use Rattle.claim_file.specs.Claim.{ClaimData, IsLawful as IsLawfulClaim, data_of as claim_data}
pub use Rattle.era_unfold.specs.Ratio.{ceiling_of}
pub use Rattle.error_marks.specs.Mark.{AreCompatible, IsPossible, high_mark, low_mark}
pub use Rattle.error_marks.specs.Range.{IsWithinRange}
pub use Rattle.error_marks.specs.declared.mark.Mark.{Mark}
pub use Rattle.feasibility.specs.Conflicts.{ConflictData, IsCover, group_count, is_pair}
pub use Rattle.feasibility.specs.Contradiction.{IsImpossiblePair, Pair}
pub use Rattle.feasibility.specs.Cover.{group_of, size_of}
pub use Rattle.feasibility.specs.CoverSearch.{Covers, IsBusiest, IsSimple, degree, edge_of}
pub use Rattle.feasibility.specs.DriftRefutation.{IsRefutedWithDrift}
pub use Rattle.feasibility.specs.DriftTest.{are_compatible, is_possible}
pub use Rattle.feasibility.specs.Keeping.{KeepsHigh, KeepsLow}
pub use Rattle.feasibility.specs.Members.{LieWithin, has, passing}
pub use Rattle.intersection.specs.Hull.{IsHull}
pub use Rattle.intersection.specs.declared.kinds.Hull.{Hull}
pub use Rattle.intersection.specs.declared.kinds.Hull.TheVariants.{Bounded}
pub use Rattle.intersection.specs.declared.kinds.Interval.{Interval}
pub use Rattle.pairing.specs.Exchange.{IsLawful}
pub use Rattle.pairing.specs.declared.exchange.Exchange.{Exchange}
pub use Rattle.sample_interval.specs.Moment.{DriftsWithin, IsInWindow, Moment, error_of}
pub use Rattle.sample_interval.specs.Widening.{IsRate, billion, widening}
pub use Rattle.span_cover.specs.Group.{group_intervals, numbers_below, piece_hull}
pub use Rattle.span_cover.specs.Piece.{IsPiece}
pub use Rattle.span_cover.specs.declared.part.Part.{Part}
pub use Rattle.span_cover.specs.declared.stretch.Stretch.{Stretch}
pub use Rattle.std.specs.Int.{int_max}
pub use Rattle.std.specs.List.{list_all, list_any}
pub use Rattle.std.specs.Option.{option_map}
pub use Rattle.std.specs.Ordering.{int_eq}
