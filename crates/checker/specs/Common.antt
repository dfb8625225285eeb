-- What the definitions and contracts of this crate name of others.
pub use Rattle.certificate.specs.Certificate.{CertificateData, PieceData, data_of as certificate_data, max_pieces}
pub use Rattle.certificate.specs.Certificate.{piece_data}
pub use Rattle.certificate.specs.Refutation.{RefutationData, data_of as refutation_data}
pub use Rattle.claim_file.specs.Claim.{ClaimData, data_of}
pub use Rattle.claim_file.specs.Worked.{worked_claim, worked_second}
pub use Rattle.era_unfold.specs.Nanoseconds.{nanoseconds_per_second, ticks_down}
pub use Rattle.era_unfold.specs.Window.{ticks_per_second}
pub use Rattle.era_unfold.specs.declared.unit.Unit.TheVariants.{Micro}
pub use Rattle.intersection.specs.Fraction.{HoldsFraction, HullHoldsFraction, IsAdmissibleFraction}
pub use Rattle.intersection.specs.Hull.{IsHull}
pub use Rattle.intersection.specs.declared.kinds.Hull.{Hull}
pub use Rattle.intersection.specs.declared.kinds.Hull.TheVariants.{Bounded, Empty}
pub use Rattle.intersection.specs.declared.kinds.Interval.{Interval}
pub use Rattle.pairing.specs.Exchange.{IsLawful, SameRequest}
pub use Rattle.pairing.specs.Pairing.{exchanges_of}
pub use Rattle.pairing.specs.declared.exchange.Exchange.{Exchange}
pub use Rattle.pcap_reader.specs.Capture.{IsCapture, Record}
pub use Rattle.pcap_reader.specs.declared.format.Endian.TheVariants.{Little}
pub use Rattle.pcap_reader.specs.declared.format.Format.{Format}
pub use Rattle.sample_interval.specs.Exchange.{IsOfSomeClaim}
pub use Rattle.sample_interval.specs.Moment.{DriftsWithin, IsInWindow, IsWithinDistance, Moment, error_of}
pub use Rattle.sample_interval.specs.Sample.{IsLawfulSample, sample_of}
pub use Rattle.sample_interval.specs.Widening.{IsRate}
pub use Rattle.sample_interval.specs.Window.{reply_end, reply_start, request_end, request_start}
pub use Rattle.sample_interval.specs.declared.kinds.Sample.{Sample}
pub use Rattle.span_cover.specs.Gathering.{best_interval}
pub use Rattle.span_cover.specs.Group.{group_intervals, is_inside, numbers_below, piece_hull}
pub use Rattle.span_cover.specs.Part.{part_of}
pub use Rattle.span_cover.specs.Piece.{IsPiece}
pub use Rattle.span_cover.specs.declared.part.Part.{Part}
pub use Rattle.span_cover.specs.declared.stretch.Stretch.{Stretch}
pub use Rattle.std.specs.List.{AllZip, list_all, list_any, range_with_len}
pub use Rattle.std.specs.Option.{option_map}
pub use Rattle.std.specs.Ordering.{int_eq}
