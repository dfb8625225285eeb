-- What the definitions and contracts of this crate name of others.
pub use Rattle.byte_stream.specs.Fault.{CountsFault}
pub use Rattle.byte_stream.specs.Intake.{TakesAtMost}
pub use Rattle.byte_stream.specs.State.{FeedState, IsReadable, IsWritable, SinkState}
pub use Rattle.certificate.specs.Refutation.{RefutationData, data_of}
pub use Rattle.certificate.specs.RefutationFault.{number_of as refutation_number}
pub use Rattle.certificate.specs.RefutationReading.{refutation_of}
pub use Rattle.certificate.specs.declared.fault.CertificateFault.{CertificateFault}
pub use Rattle.certificate.specs.declared.refutation_fault.RefutationFault.{RefutationFault}
pub use Rattle.claim_file.specs.Claim.{ClaimData, IsLawful}
pub use Rattle.claim_file.specs.Fault.{number_of as claim_number}
pub use Rattle.claim_file.specs.Reading.{claim_of}
pub use Rattle.claim_file.specs.declared.fault.ClaimFault.{ClaimFault}
pub use Rattle.cover_certificate.specs.AnyReading.{AnyData, Answers, IsFewOfAny, any_data, any_of, number_of as certificate_number}
pub use Rattle.cover_certificate.specs.declared.any.AnyFault.{AnyFault}
pub use Rattle.cover_certificate.specs.declared.fault.CoverFault.{CoverFault}
pub use Rattle.line_writer.specs.Field.{FieldData, Named, Nothing, Number, Word, field_data, fields_text, most_of}
pub use Rattle.line_writer.specs.Field.{room_of}
pub use Rattle.line_writer.specs.declared.field.Style.TheVariants.{Plain}
pub use Rattle.pcap_reader.specs.Fault.{number_of}
pub use Rattle.pcap_reader.specs.Limit.{most_taken}
pub use Rattle.pcap_reader.specs.Remaining.{capture_of}
pub use Rattle.pcap_reader.specs.declared.fault.CaptureFault.{CaptureFault}
pub use Rattle.pcap_reader.specs.declared.fault.CaptureFault.TheVariants.{BadFraction, Failed, Link, Magic, Memory}
pub use Rattle.pcap_reader.specs.declared.fault.CaptureFault.TheVariants.{Read, TooLong, TooMany, TornHeader}
pub use Rattle.pcap_reader.specs.declared.fault.CaptureFault.TheVariants.{TornRecord, Version}
pub use Rattle.reading_time.specs.Fault.{number_of as times_number}
pub use Rattle.reading_time.specs.Reading.{ReadingData}
pub use Rattle.reading_time.specs.Times.{AreLawfulTimes, times_data, times_of}
pub use Rattle.reading_time.specs.declared.fault.TimesFault.{TimesFault}
pub use Rattle.std.specs.Io.KnownBytes.{Appends, Consumes, Keeps}
pub use Rattle.std.specs.List.{concat}
