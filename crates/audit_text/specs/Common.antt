-- What the definitions and contracts of this crate name of others.
pub use Rattle.certificate.specs.Certificate.{max_pieces}
pub use Rattle.certificate.specs.Refutation.{RefutationData, data_of as refutation_data}
pub use Rattle.checker.specs.Samples.{AreSamplesOf}
pub use Rattle.checker.specs.declared.verdict.Verdict.{Verdict}
pub use Rattle.checker.specs.declared.verdict.Why.{Why}
pub use Rattle.checker.specs.declared.verdict.Why.TheVariants.{BadSample, Contradiction, Cut, Exceeds, MixedServers}
pub use Rattle.checker.specs.declared.verdict.Why.TheVariants.{RepeatedServer, Uncovered}
pub use Rattle.claim_file.specs.Claim.{ClaimData, data_of, group_count, max_servers}
pub use Rattle.cover_certificate.specs.CoverCertificate.{CaseData, CoverCertificateData, case_data}
pub use Rattle.cover_certificate.specs.CoverCertificate.{data_of as covers_data}
pub use Rattle.cover_checker.specs.Conflict.{names}
pub use Rattle.cover_checker.specs.Interval.{missed_by}
pub use Rattle.era_unfold.specs.Nanoseconds.{ticks_down}
pub use Rattle.error_marks.specs.Mark.{high_mark, low_mark}
pub use Rattle.feasibility.specs.Contradiction.{ShownConflict}
pub use Rattle.feasibility.specs.PairMarks.{conflict_data}
pub use Rattle.intersection.specs.declared.kinds.Hull.{Hull}
pub use Rattle.intersection.specs.declared.kinds.Hull.TheVariants.{Bounded, Empty, Unbounded}
pub use Rattle.line_writer.specs.Field.{Address, Billionths, Blank, FieldData, Heading, High, Instead, Label, Low}
pub use Rattle.line_writer.specs.Field.{Named, Nanoseconds, Nothing, Number, Reference, Second, TimeAbove, TimeBelow}
pub use Rattle.line_writer.specs.Field.{Word, field_data, is_absent, line_of, next_text, width_of}
pub use Rattle.line_writer.specs.Millisecond.{longer}
pub use Rattle.line_writer.specs.declared.field.ColumnKind.TheVariants.{End, Name}
pub use Rattle.line_writer.specs.declared.field.Style.{Style}
pub use Rattle.line_writer.specs.declared.field.Style.TheVariants.{Columns, Human, Plain}
pub use Rattle.pairing.specs.Compact.{compact_data, exchange_shown}
pub use Rattle.pairing.specs.Exchange.{AreLawful, IsLawful, most_exchanges}
pub use Rattle.pairing.specs.Pairing.{Collection}
pub use Rattle.pairing.specs.Sources.{is_source}
pub use Rattle.pairing.specs.declared.counts.Counts.{Counts}
pub use Rattle.pairing.specs.declared.exchange.Exchange.{Exchange}
pub use Rattle.sample_interval.specs.Exchange.{IsOfSomeClaim}
pub use Rattle.sample_interval.specs.OnWire.{delay_from, delay_to, offset_from, offset_to}
pub use Rattle.sample_interval.specs.Sample.{greatest_error, least_error}
pub use Rattle.sample_interval.specs.declared.kinds.Sample.{Sample}
pub use Rattle.span_cover.specs.declared.part.Part.{Part}
pub use Rattle.std.specs.List.{list_any}
