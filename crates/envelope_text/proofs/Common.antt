-- What the proofs of this crate name from elsewhere.
pub use Rattle.std.proofs.Common.{ap, append_assoc, drop, length, map, refl, subst, sym, take, ◌++◌, ◌∙◌, ◌≡◌}
pub use Rattle.std.specs.Prelude.{flat_map}
pub use Rattle.audit_text.specs.Table.{rows_from}
pub use Rattle.claim_file.specs.Claim.{data_of}
pub use Rattle.finder.specs.Envelope.{IsLawfulPiece, piece_data}
pub use Rattle.envelope_text.specs.Envelope.{piece_lines, server_line}
unfoldable pub use Rattle.envelope_text.specs.Envelope.{envelope_text}
