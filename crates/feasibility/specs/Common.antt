-- What the definitions and contracts of this crate name of others.
pub use Rattle.certificate.specs.Certificate.{CertificateData}
pub use Rattle.certificate.specs.Refutation.{RefutationData, data_of as refutation_data}
pub use Rattle.checker.specs.Course.{Course, Fits, FitsInWindows}
pub use Rattle.checker.specs.Groups.{false_group_count, holds_false}
pub use Rattle.checker.specs.Refutation.{IsAgainst, IsRefuted, SharesRequests, is_liar}
pub use Rattle.checker.specs.RefutationTest.{is_against}
pub use Rattle.checker.specs.Traceability.{IsObservedIn, IsWithin, samples_of}
pub use Rattle.checker.specs.Verdict.{verdict_of}
pub use Rattle.checker.specs.WorkedCourse.{hour, worked_exchange}
pub use Rattle.checker.specs.WorkedRefutation.{claim_with, refutation_with}
pub use Rattle.checker.specs.declared.verdict.Verdict.TheVariants.{Yes}
pub use Rattle.claim_file.specs.Claim.{ClaimData, data_of}
pub use Rattle.claim_file.specs.Worked.{worked_second}
pub use Rattle.error_marks.specs.Compatible.{AllCompatible}
pub use Rattle.error_marks.specs.Conflict.{IsFirstConflict}
pub use Rattle.error_marks.specs.Direction.{IsInOrder}
pub use Rattle.error_marks.specs.Mark.{AreCompatible, IsPossible, high_mark, low_mark}
pub use Rattle.error_marks.specs.Range.{IsWithinRange}
pub use Rattle.error_marks.specs.declared.mark.Mark.{Mark}
pub use Rattle.pairing.specs.Exchange.{IsLawful, SameRequest}
pub use Rattle.pairing.specs.declared.exchange.Exchange.{Exchange}
pub use Rattle.sample_interval.specs.Moment.{DriftsWithin, Moment, error_of}
pub use Rattle.sample_interval.specs.Widening.{IsRate, billion}
pub use Rattle.sample_interval.specs.Window.{reply_end, request_start}
pub use Rattle.span_cover.specs.Group.{numbers_below}
pub use Rattle.std.specs.Int.{bit_at, int_max}
pub use Rattle.std.specs.List.{list_all, list_any, slice_index_or}
