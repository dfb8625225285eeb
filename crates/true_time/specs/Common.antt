-- What the definitions and contracts of this crate name of others.
pub use Rattle.checker.specs.Course.{Course, Fits}
pub use Rattle.checker.specs.Samples.{AreSamplesOf}
pub use Rattle.checker.specs.Traceability.{HoldsError, IsInHull, IsObservedIn, samples_of}
pub use Rattle.claim_file.specs.Claim.{ClaimData, IsLawful, data_of}
pub use Rattle.finder.specs.Entry.{best_entries, best_hull, parts_named}
pub use Rattle.finder.specs.Fewest.{stretch_over}
pub use Rattle.finder.specs.Reach.{AreTablesFor, IsTabled, OfTables}
pub use Rattle.intersection.specs.declared.kinds.Hull.{Hull}
pub use Rattle.intersection.specs.declared.kinds.Hull.TheVariants.{Bounded, Empty, Unbounded}
pub use Rattle.line_writer.specs.Field.{FieldData, High, Label, Low, Nothing, TimeAbove, TimeBelow, field_data, line_of}
pub use Rattle.line_writer.specs.declared.field.Style.{Style}
pub use Rattle.line_writer.specs.declared.field.Style.TheVariants.{Columns, Plain}
pub use Rattle.pairing.specs.declared.exchange.Exchange.{Exchange}
pub use Rattle.reading_time.specs.Reading.{IsLawfulReading, ReadingData, reading_data}
pub use Rattle.sample_interval.specs.Moment.{IsInWindow}
pub use Rattle.sample_interval.specs.Widening.{IsRate}
pub use Rattle.sample_interval.specs.declared.kinds.Sample.{Sample}
pub use Rattle.span_cover.specs.declared.part.Part.{Part}
