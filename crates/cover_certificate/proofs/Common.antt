-- What the proofs of this crate name from elsewhere.
pub use Rattle.std.proofs.Common.{Bool, Equal, Err, Greater, Less, List, None, Ok, Option, Ordering, Result, Some, []}
pub use Rattle.std.proofs.Common.{ap, append-nil, append_assoc, ap₂, arith, bytes_eq, cond, decimal, drop, false}
pub use Rattle.std.proofs.Common.{get_or, if◌then◌else◌, inl, inr, is_eq, is_some, length, length-append, lt-ltb, map}
pub use Rattle.std.proofs.Common.{nat_cmp, nat_le, negsuc, option_and_then, option_map, pos, refl, rules, string_bytes}
pub use Rattle.std.proofs.Common.{subst, suc, sym, take, true, ℕ, ℤ, ◌&&◌, ◌*◌, ◌++◌, ◌+◌, ◌-◌, ◌<ℤ◌, ◌<◌, ◌^◌, ◌∙◌}
pub use Rattle.std.proofs.Common.{◌∷◌, ◌≡◌, ◌≢◌, ◌≤ℤ◌, ◌≤◌}
pub use Rattle.std.proofs.lemmas.Bool.{le-leb, leb-true}
pub use Rattle.std.proofs.lemmas.Bool.Decides.{Decides-eqb, nat_tests}
pub use Rattle.std.proofs.lemmas.Fmt.{IsAscii-signed, decimal_digit, decimal_step, length-decimal-le, length_signed_le}
pub use Rattle.std.proofs.lemmas.Grind.{common_steps}
pub use Rattle.std.proofs.lemmas.List.{length-map, length-take-le, map-append, take_more}
pub use Rattle.std.proofs.lemmas.List.Elements.{All-push}
pub use Rattle.std.proofs.lemmas.Slice.Eq.{bytes_eq-Decides, strip_prefix_is}
pub use Rattle.std.proofs.lemmas.Str.{IsUtf8-append, IsUtf8-from_ascii, IsUtf8-from_is_utf8, is_utf8-from_IsUtf8}
pub use Rattle.std.specs.Fmt.{signed_decimal}
pub use Rattle.std.specs.List.{join_with_byte, list_any}
pub use Rattle.std.specs.Prelude.{All, IfOk, IfSome, codes}
pub use Rattle.std.specs.Str.{IsUtf8, is_utf8}
pub use Rattle.json.proofs.Grammar.{left_some, read_key-shorter}
pub use Rattle.json.specs.Json.{after_end_array, parse_map, read_key}
pub use Rattle.json.specs.Lex.{Lexeme, between, colon, fresh, punctuate, string_token, token, tokens}
unfoldable pub use Rattle.json.specs.Lex.{lex}
pub use Rattle.json.specs.Print.{IsPrintable, begins, ends, escape, quoted, separator, token_text}
unfoldable pub use Rattle.json.specs.Print.{ArePrintable, print_from}
pub use Rattle.json.specs.Token.{Token, bad, begin_array, begin_object, boolean, end_array, end_object, key, null}
pub use Rattle.json.specs.Token.{string}
pub use Rattle.json_text.proofs.NextToken.{array_ends, element_read, element_refused, goes_on, mapped-shorter}
pub use Rattle.json_text.proofs.NextToken.{mapped_none, mapped_same, mapped_some}
pub use Rattle.json_text.proofs.NextTokens.{key_refused, member_read, member_refused, members_over, value-shorter}
pub use Rattle.json_text.proofs.NextTokens.{whole_and_more, whole_read, whole_refused}
pub use Rattle.json_text.proofs.Outline.{IsPlain, items_nesting, nesting, parsed_compact, parsed_tokens, plain_items}
pub use Rattle.json_text.proofs.Outline.{plain_number, printable, utf8_ascii, utf8_compact}
pub use Rattle.json_text.specs.Member.{has_only, items_at, members_among, unsigned_at, unsigned_of}
pub use Rattle.json_text.specs.Next.{next_items, next_members, next_value, rest_after}
pub use Rattle.json_text.specs.Step.{after, asked, given}
pub use Rattle.json_text.specs.Text.{parsed}
unfoldable pub use Rattle.serde_json.proofs.OnLiterals.{serde_json_on_literals}
pub use Rattle.serde_json.proofs.Texts.{print-outline}
pub use Rattle.serde_json.proofs.Views.{get_member-put, get_member-put_other, items_len-items_view}
pub use Rattle.serde_json.specs.Data.{Data, Items, Members, item, member, no_items, no_members, number, object, put}
pub use Rattle.serde_json.specs.Events.{items_len}
pub use Rattle.serde_json.specs.Find.{as_array, as_i64, is_float, of_integer}
pub use Rattle.serde_json.specs.Read.{max_depth, read}
pub use Rattle.serde_json.specs.View.{items_of, items_view, view}
pub use Rattle.serde_json.specs.Written.{compact_text, has_float, items_have_float, items_text, number_text}
pub use Rattle.certificate.specs.Certificate.{IsHeld, IsReadable, NamesSamples, PieceData}
pub use Rattle.certificate.specs.Certificate.{max_entries, max_pieces, piece_data}
pub use Rattle.cover_certificate.specs.Fault.{Answers}
pub use Rattle.cover_certificate.specs.Parts.{PieceParts, entries_in, judged, list_in, parts_of, piece_from, pieces_and}
pub use Rattle.cover_certificate.specs.Parts.{pieces_in}
pub use Rattle.cover_certificate.specs.PartsData.{parts_data, pieces_data}
pub use Rattle.certificate.specs.Reading.{entry_of, pair_of}
pub use Rattle.cover_certificate.specs.PieceReading.{each_of, entries_of, piece_of}
pub use Rattle.certificate.specs.Reading.{sample_of}
pub use Rattle.cover_certificate.specs.PieceReading.{pieces_from}
pub use Rattle.certificate.specs.Writing.{comma, comma_before, entry_text}
pub use Rattle.certificate.specs.Writing.{entry_value, number_value, piece_text, piece_value}
pub use Rattle.certificate.specs.declared.certificate.Certificate.{Certificate}
pub use Rattle.certificate.specs.declared.certificate.Piece.{Piece}
pub use Rattle.cover_certificate.specs.declared.fault.CoverFault.{CoverFault}
pub use Rattle.cover_certificate.specs.declared.fault.CoverFault.TheVariants.{Json, Shape, TooManyEntries}
pub use Rattle.cover_certificate.specs.declared.fault.CoverFault.TheVariants.{TooManyPieces}
pub use Rattle.cover_certificate.specs.CoverCertificate.{CaseData, CoverCertificateData, case_data, max_cases, max_conflicts}
pub use Rattle.cover_certificate.specs.CoverParts.{CaseParts, CoversParts, case_of_parts, case_parts_data, case_parts_of}
pub use Rattle.cover_certificate.specs.CoverParts.{cases_data, covers_of_parts, covers_parts_data, covers_parts_of}
pub use Rattle.cover_certificate.specs.CoverReading.{case_of, cases_from, conflicts_in, covers_from, covers_of, group_of}
pub use Rattle.cover_certificate.specs.CoverReading.{groups_in, max_groups, pieces_of}
pub use Rattle.cover_certificate.specs.declared.fault.CoverFault.TheVariants.{CaseShape, Conflicts, TooManyCases}
pub use Rattle.cover_certificate.specs.declared.fault.CoverFault.TheVariants.{TooManyConflicts, Top}
pub use Rattle.cover_certificate.specs.declared.cover_certificate.Case.{Case}
pub use Rattle.cover_certificate.specs.CoverCertificate.{IsFew}
pub use Rattle.cover_certificate.specs.CoverReading.{IsHeldCase, IsHeldCovers}
pub use Rattle.cover_certificate.specs.CoverWriting.{case_text, case_value, covers_text, covers_value}
