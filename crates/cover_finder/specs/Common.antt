-- What the definitions and contracts of this crate name of others.
pub use Rattle.certificate.specs.Certificate.{PieceData, max_pieces}
pub use Rattle.claim_file.specs.Claim.{ClaimData, data_of as claim_data}
pub use Rattle.cover_certificate.specs.CoverCertificate.{CaseData, CoverCertificateData, IsFew, case_data, data_of as certificate_data}
pub use Rattle.cover_certificate.specs.declared.cover_certificate.Case.{Case}
pub use Rattle.certificate.specs.declared.refutation.Refutation.{Refutation}
pub use Rattle.certificate.specs.Refutation.{data_of as refutation_data}
pub use Rattle.cover_checker.specs.Acceptance.{IsAccepted}
pub use Rattle.feasibility.specs.ConflictTable.{IsConflictTable}
pub use Rattle.feasibility.specs.DriftSettlement.{SettlesWithDrift}
pub use Rattle.feasibility.specs.ConflictsView.{data_of as conflicts_data}
pub use Rattle.finder.specs.Fewest.{NoneOfFewIsAccepted, end_after, stretch_over}
pub use Rattle.finder.specs.Settlement.{HasTooManyPieces, IsFitted, IsHeard, IsSettledAs, SettledData, Settles, settled_data}
pub use Rattle.finder.specs.declared.fault.FindFault.{FindFault}
pub use Rattle.finder.specs.declared.fault.FindFault.TheVariants.{Memory, TooManyPieces}
pub use Rattle.pairing.specs.Exchange.{IsLawful}
pub use Rattle.pairing.specs.declared.exchange.Exchange.{Exchange}
pub use Rattle.checker.specs.Traceability.{samples_of}
pub use Rattle.checker.specs.Course.{Course, Fits}
pub use Rattle.checker.specs.Groups.{holds_false}
pub use Rattle.checker.specs.Traceability.{IsInHull, IsObservedIn}
pub use Rattle.cover_checker.specs.Hull.{HasFalse, HoldsErrorOf, IsSaid, IsSaidBySome}
pub use Rattle.cover_checker.specs.Interval.{ahead, high_over, low_over, part_of, rise}
pub use Rattle.era_unfold.specs.Ratio.{ceiling_of}
pub use Rattle.error_marks.specs.Mark.{high_mark, low_mark}
pub use Rattle.error_marks.specs.Range.{IsWithinRange}
pub use Rattle.error_marks.specs.declared.mark.Mark.{Mark}
pub use Rattle.feasibility.specs.Contradiction.{AreAllConflicts, ShownConflict}
pub use Rattle.feasibility.specs.Cover.{HasSmallCover, SomeCourse, group_of, size_of}
pub use Rattle.feasibility.specs.Groups.{HoldsOne, HoldsOneOr64, holds}
pub use Rattle.feasibility.specs.LeastCovers.{AreLeastCovers}
pub use Rattle.feasibility.specs.PairMarks.{conflict_data}
pub use Rattle.feasibility.specs.declared.shown_conflicts.Conflict.{Conflict}
pub use Rattle.feasibility.specs.declared.groups.Groups.{Groups}
pub use Rattle.intersection.specs.declared.kinds.Hull.{Hull}
pub use Rattle.intersection.specs.declared.kinds.Hull.TheVariants.{Bounded, Empty, Unbounded}
pub use Rattle.sample_interval.specs.Moment.{error_of}
pub use Rattle.sample_interval.specs.Widening.{IsRate, billion, widening}
pub use Rattle.span_cover.specs.Group.{is_inside, numbers_below, piece_hull}
pub use Rattle.span_cover.specs.Piece.{IsPiece}
pub use Rattle.span_cover.specs.declared.part.Part.{Part}
pub use Rattle.span_cover.specs.declared.stretch.Stretch.{Stretch}
