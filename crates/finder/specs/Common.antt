-- What the definitions and contracts of this crate name of others.
pub use Rattle.certificate.specs.Certificate.{CertificateData, PieceData, data_of as certificate_data, max_pieces}
pub use Rattle.certificate.specs.Certificate.{piece_data}
pub use Rattle.certificate.specs.Refutation.{RefutationData, data_of as refutation_data}
pub use Rattle.checker.specs.Course.{Course, Fits}
pub use Rattle.checker.specs.Groups.{false_group_count, holds_false}
pub use Rattle.checker.specs.Refutation.{IsRefuted}
pub use Rattle.checker.specs.RefutationTest.{admits, are_different}
pub use Rattle.checker.specs.Samples.{AreSamplesOf}
pub use Rattle.checker.specs.Stretch.{stretches_of}
pub use Rattle.checker.specs.Traceability.{HoldsError, IsContradicted, IsObservedIn, IsWithin, samples_of}
pub use Rattle.checker.specs.Verdict.{hull_fault, parts_after, parts_fault, verdict_of}
pub use Rattle.checker.specs.declared.verdict.Verdict.{Verdict}
pub use Rattle.checker.specs.declared.verdict.Verdict.TheVariants.{Yes}
pub use Rattle.claim_file.specs.Claim.{ClaimData, data_of, max_bound_ns, max_drift_ppb, with_bound}
pub use Rattle.era_unfold.specs.Nanoseconds.{nanoseconds_per_second, ticks_down}
pub use Rattle.era_unfold.specs.Ratio.{ceiling_of}
pub use Rattle.era_unfold.specs.Window.{ticks_per_second}
pub use Rattle.error_marks.specs.Mark.{AreCompatible, high_mark, low_mark}
pub use Rattle.error_marks.specs.Range.{IsWithinRange}
pub use Rattle.error_marks.specs.declared.mark.Mark.{Mark}
pub use Rattle.feasibility.specs.ConflictTable.{IsConflictTable}
pub use Rattle.feasibility.specs.Contradiction.{AreAllConflicts, NoFewHoldAnEnd, ShownConflict}
pub use Rattle.feasibility.specs.Cover.{SomeCourse, SomeCourseAt, group_of, servers_of}
pub use Rattle.feasibility.specs.DriftRefutation.{HasDriftCourse, IsRefutedWithDrift}
pub use Rattle.feasibility.specs.DriftSettlement.{SettlesWithDrift}
pub use Rattle.feasibility.specs.Groups.{holds}
pub use Rattle.feasibility.specs.LeastCovers.{AreLeastCovers}
pub use Rattle.feasibility.specs.Members.{LieWithin}
pub use Rattle.feasibility.specs.PairMarks.{conflict_data}
pub use Rattle.feasibility.specs.ServedGroups.{IsNoEvidence, count_with_exchange}
pub use Rattle.feasibility.specs.declared.groups.Groups.{Groups}
pub use Rattle.intersection.specs.Interval.{leaves_out}
pub use Rattle.intersection.specs.declared.kinds.Hull.{Hull}
pub use Rattle.intersection.specs.declared.kinds.Hull.TheVariants.{Bounded, Empty, Unbounded}
pub use Rattle.intersection.specs.declared.kinds.Interval.{Interval}
pub use Rattle.pairing.specs.Exchange.{IsLawful, SameRequest, most_exchanges}
pub use Rattle.pairing.specs.declared.exchange.Exchange.{Exchange}
pub use Rattle.sample_interval.specs.Exchange.{IsOfSomeClaim}
pub use Rattle.sample_interval.specs.Moment.{error_of}
pub use Rattle.sample_interval.specs.Sample.{IsLawfulSample}
pub use Rattle.sample_interval.specs.Widening.{IsRate}
pub use Rattle.sample_interval.specs.declared.kinds.Sample.{Sample}
pub use Rattle.span_cover.specs.Best.{best_of}
pub use Rattle.span_cover.specs.Gathering.{Gathered, best_interval}
pub use Rattle.span_cover.specs.Group.{is_inside, numbers_below, piece_hull}
pub use Rattle.span_cover.specs.Part.{part_of}
pub use Rattle.span_cover.specs.Piece.{IsPiece}
pub use Rattle.span_cover.specs.Step.{piece_end_of}
pub use Rattle.span_cover.specs.declared.part.Part.{Part}
pub use Rattle.span_cover.specs.declared.stretch.Stretch.{Stretch}
pub use Rattle.std.specs.Int.{int_max, int_min}
pub use Rattle.std.specs.List.{filter_map, find, list_any, range_with_len, slice_index_or}
pub use Rattle.std.specs.Option.{option_map, option_or}
pub use Rattle.std.specs.declared.alloc.AllocError.{AllocError}
pub use Rattle.sweep.specs.Pieces.{ArePieces, IsPieceAt}
pub use Rattle.sweep.specs.Table.{AreTablesOf}
pub use Rattle.sweep.specs.declared.table.BestTable.{BestTable}
