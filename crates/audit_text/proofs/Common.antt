-- What the proofs of this crate name from elsewhere.
pub use Rattle.std.proofs.Common.{All, Bool, List, Some, [], add-one, ap, append-nil, append_assoc, arith, codes, drop}
pub use Rattle.std.proofs.Common.{get_or, length, map, of_z, refl, reverse, rules, subst, sym, take, to_z, unsigned_abs}
pub use Rattle.std.proofs.Common.{ℕ, ℤ, ◌++◌, ◌+◌, ◌<◌, ◌^◌, ◌∙◌, ◌∷◌, ◌≡◌, ◌≤◌}
pub use Rattle.std.proofs.lemmas.Grind.{flat_map-append}
pub use Rattle.std.proofs.lemmas.Int.{ints, to_z-of_z}
pub use Rattle.std.proofs.lemmas.List.{drop_all, get_or-map, length-map, take_all, take_more}
pub use Rattle.std.specs.Prelude.{flat_map, slice_get, ◌==◌, ◌||◌}
pub use Rattle.std.specs.Result.{IfOk}
pub use Rattle.claim_file.specs.Claim.{ClaimData, data_of}
pub use Rattle.feasibility.specs.PairMarks.{conflict_data}
pub use Rattle.line_writer.specs.Field.{Address, FieldData, High, Label, Low, Named, Number, TimeAbove, Word}
pub use Rattle.line_writer.specs.Field.{field_data, line_of, rest_text, text_of}
pub use Rattle.line_writer.specs.declared.field.Style.TheVariants.{Plain}
pub use Rattle.pairing.specs.Compact.{exchange_shown}
pub use Rattle.pairing.specs.Exchange.{IsLawful}
pub use Rattle.pairing.specs.declared.exchange.Exchange.{Exchange}
pub use Rattle.sample_interval.specs.OnWire.{delay_from, delay_to, offset_from, offset_to}
pub use Rattle.sample_interval.specs.Sample.{greatest_error, least_error, sample_of}
pub use Rattle.sample_interval.specs.declared.kinds.Sample.{Sample}
pub use mir.Syntax.{w128}
unfoldable pub use Rattle.audit_text.specs.CheckReport.{check_text}
unfoldable pub use Rattle.audit_text.specs.VerdictLine.{pieces_line}
pub use Rattle.audit_text.specs.Parts.{hull_fields, part_columns, part_row}
unfoldable pub use Rattle.audit_text.specs.Parts.{parts_text}
pub use Rattle.audit_text.specs.RefutationLines.{liar_line}
pub use Rattle.audit_text.specs.SampleLine.{sample_fields, server_of}
unfoldable pub use Rattle.audit_text.specs.SampleLine.{sample_line}
pub use Rattle.audit_text.specs.Settlement.{conflict_line}
unfoldable pub use Rattle.audit_text.specs.Settlement.{conflicts_text, pair_line}
pub use Rattle.audit_text.specs.SilentLines.{silent_to}
unfoldable pub use Rattle.audit_text.specs.SilentLines.{silent_line}
pub use Rattle.audit_text.specs.Table.{IsUnder, for_person, from_field, rows_from}
unfoldable pub use Rattle.audit_text.specs.Table.{row_of}
pub use Rattle.lemma_base.proofs.Int.{w128_keeps}
pub use Rattle.sample_interval.proofs.NoOverflow.{stamp_is}
