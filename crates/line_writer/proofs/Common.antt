-- What the proofs of this crate name from elsewhere.
pub use Rattle.std.proofs.Common.{Bool, List, T, [], add-one, ap, append_assoc, arith, drop, drop-cons, drop-drop}
pub use Rattle.std.proofs.Common.{eq-zero-or-pos, eqb, eqb→eq, false, get_or, inl, inr, length, length-append}
pub use Rattle.std.proofs.Common.{length-set, map, nat_lt, neg_ℤ, negsuc, pos, refl, set, subst, suc, sym, take, true}
pub use Rattle.std.proofs.Common.{unsigned_abs, zero, ℕ, ℤ, ◌%◌, ◌&&◌, ◌*ℤ◌, ◌*◌, ◌++◌, ◌+ℤ◌, ◌+◌, ◌-◌, ◌/◌, ◌<◌, ◌==◌}
pub use Rattle.std.proofs.Common.{◌^◌, ◌∙◌, ◌∷◌, ◌≡◌, ◌≤ℤ◌, ◌≤◌}
pub use Rattle.std.proofs.Math.Seq.{drop-append-add, drop-append_seam, get_or-append_seam, take-append_seam}
pub use Rattle.std.proofs.lemmas.Bool.{and_parts, cases_lt}
pub use Rattle.std.proofs.lemmas.Bool.Decides.{nat_tests}
pub use Rattle.std.proofs.lemmas.Fmt.{decimal_by_steps_wide, decimal_digit, decimal_is_IsNumeral_wide, decimal_step}
pub use Rattle.std.proofs.lemmas.Fmt.{decimal_step_wide, length-decimal-le, length-decimal-le_wide}
pub use Rattle.std.proofs.lemmas.Grind.{drop-set_at}
pub use Rattle.std.proofs.lemmas.List.{drop-append-le, drop_all, get_or_append_left, length-replicate}
pub use Rattle.std.proofs.lemmas.List.{replicate-append-replicate}
pub use Rattle.std.specs.Fmt.{decimal}
pub use Rattle.std.specs.List.{list_all, prefix_len}
pub use Rattle.std.specs.Prelude.{Some, codes, replicate, slice_index}
pub use Rattle.era_unfold.proofs.Rounding.{IsCeiling-ceiling_of, IsFloor-floor_of, IsSignedCeiling-IsCeiling}
pub use Rattle.era_unfold.proofs.Rounding.{IsSignedFloor-IsFloor, div-whole_and_part, div-whole_and_part_up}
pub use Rattle.era_unfold.specs.Ratio.{IsCeiling, IsFloor, IsSignedCeiling, IsSignedFloor}
unfoldable pub use Rattle.era_unfold.specs.Ratio.{ceiling_of, floor_of}
pub use Rattle.hex.specs.Hex.{encode_lower, lower_digits}
unfoldable pub use Rattle.hex.specs.Hex.{encode_with}
pub use Rattle.jiff_core.proofs.SignedLemmas.{signed_arith}
pub use lib.Ieee.Fits.{and_l, and_r}
pub use Rattle.line_writer.specs.Date.{clock_text, day_number, day_of, days_passed, hour_of, march_day}
pub use Rattle.era_unfold.specs.Digits.{four_digits}
pub use Rattle.line_writer.specs.Date.{march_month, march_year, minute_of, month_of, second_of, time_text}
pub use Rattle.era_unfold.specs.Digits.{two_digits}
pub use Rattle.line_writer.specs.Date.{year_of}
pub use Rattle.line_writer.specs.Field.{FieldData, Heading, Instead, Label, Named, Word, field_data, in_column}
pub use Rattle.line_writer.specs.Field.{is_short, most_of, reference_text, rest_text, room_of, width, width_of}
pub use Rattle.line_writer.specs.Millisecond.{longer, milliseconds, nanosecond_above, nanosecond_below, shorter}
pub use Rattle.line_writer.specs.Millisecond.{signed_milliseconds}
pub use Rattle.line_writer.specs.Moment.{moment_above, moment_below, moment_text, part_of, part_text}
pub use Rattle.line_writer.specs.Reading.{SaysMoment, SaysSecond, are_digits, is_clock, is_whole, read_decimal}
pub use Rattle.line_writer.specs.Reading.{read_part, read_signed, read_whole}
pub use Rattle.line_writer.specs.Text.{are_zero, is_printable, millionths, zero_padded}
