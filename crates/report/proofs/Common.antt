-- What the proofs of this crate name from elsewhere.
pub use Rattle.std.proofs.Common.{Bool, Err, IsOk, IsTrue, List, Ok, Option, Result, [], append_assoc, arith, codes}
pub use Rattle.std.proofs.Common.{ap, inl}
pub use Rattle.std.proofs.Common.{false, if◌then◌else◌, inr, length, length-append, refl, rules, subst, suc, sym, take}
pub use Rattle.std.proofs.Common.{true, zero, ℕ, ◌%◌, ◌++◌, ◌+◌, ◌-◌, ◌/◌, ◌<◌, ◌==◌, ◌^◌, ◌∙◌, ◌∷◌, ◌≡◌, ◌≤◌, ◌⊎◌}
pub use Rattle.std.proofs.KnownBytes.{Appends-kept, Appends-nil, Appends-trans}
pub use Rattle.std.proofs.Math.Seq.{take-add, take-append-add, take-length}
pub use Rattle.std.proofs.lemmas.List.{append-nil, take-append-le}
pub use Rattle.std.proofs.lemmas.List.Folds.{concat-append}
pub use Rattle.std.specs.Io.KnownBytes.{Appends, Consumes, Keeps}
pub use Rattle.std.specs.List.{concat}
pub use Rattle.std.specs.Prelude.{IfSome, is_err}
pub use Rattle.std.specs.Str.{IsAscii, IsUtf8}
pub use Rattle.byte_stream.specs.State.{FeedState, SinkState}
pub use Rattle.cover_certificate.specs.AnyReading.{AnyData, IsMemory, any_data}
pub use Rattle.cover_certificate.specs.declared.any.AnyFault.{AnyFault}
pub use Rattle.report.specs.Closing.{Closes, IsPut, IsRefusal}
pub use Rattle.report.specs.Fault.{certificate_run_fault_of, claim_run_fault_of, refutation_run_fault_of}
pub use Rattle.report.specs.FaultText.{fault_fields, fault_text}
pub use Rattle.report.specs.Input.{IsInputFault, ReadsWhole, most_read}
pub use Rattle.report.specs.Output.{HasPut, IsReady, OutputState, Puts, StopsIn, fresh_output, put_count, with_text}
pub use Rattle.report.specs.Reading.{IsFromOutside, Reads, or_fault}
unfoldable pub use Rattle.report.specs.Reading.{whole_read}
pub use Rattle.report.specs.Reports.{GetsText, Report, refused, text_of}
pub use Rattle.report.specs.declared.fault.Input.{Input}
pub use Rattle.report.specs.declared.fault.Outcome.{Outcome}
pub use Rattle.report.specs.declared.fault.RunFault.{RunFault}
pub use Rattle.report.specs.declared.fault.RunFault.TheVariants.{Device, Memory, Write}
