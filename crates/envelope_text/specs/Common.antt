-- What the definitions and contracts of this crate name of others.
pub use Rattle.certificate.specs.Certificate.{max_pieces}
pub use Rattle.checker.specs.Samples.{AreSamplesOf}
pub use Rattle.claim_file.specs.Claim.{ClaimData, data_of}
pub use Rattle.finder.specs.Entry.{parts_named}
pub use Rattle.finder.specs.Envelope.{EnvelopeData, IsLawfulEnvelope, IsLawfulPiece, PieceHullData}
pub use Rattle.finder.specs.Envelope.{data_of as envelope_data, piece_data}
pub use Rattle.finder.specs.declared.least.LeastBound.{LeastBound}
pub use Rattle.finder.specs.declared.least.LeastBound.TheVariants.{Holds, NoneHolds}
pub use Rattle.line_writer.specs.Field.{Address, FieldData, Heading, High, Low, Named, Nanoseconds, Number, Second}
pub use Rattle.line_writer.specs.Field.{field_data, line_of}
pub use Rattle.line_writer.specs.declared.field.Style.{Style}
pub use Rattle.sample_interval.specs.declared.kinds.Sample.{Sample}
pub use Rattle.span_cover.specs.declared.part.Part.{Part}
