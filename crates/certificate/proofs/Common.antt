-- What the proofs of this crate name from elsewhere.
pub use Rattle.std.proofs.Common.{Bool, Equal, Err, Greater, Less, List, None, Ok, Option, Ordering, Result, Some, []}
pub use Rattle.std.proofs.Common.{ap, append-nil, append_assoc, ap₂, arith, bytes_eq, cond, decimal, drop, false}
pub use Rattle.std.proofs.Common.{get_or, if◌then◌else◌, inl, inr, is_eq, is_some, length, length-append, lt-ltb, map}
pub use Rattle.std.proofs.Common.{nat_cmp, nat_le, negsuc, option_and_then, option_map, pos, refl, rules, string_bytes}
pub use Rattle.std.proofs.Common.{subst, suc, sym, take, true, ℕ, ℤ, ◌&&◌, ◌*◌, ◌++◌, ◌+◌, ◌-◌, ◌<ℤ◌, ◌<◌, ◌^◌, ◌∙◌}
pub use Rattle.std.proofs.Common.{◌∷◌, ◌≡◌, ◌≢◌, ◌≤ℤ◌, ◌≤◌}
pub use Rattle.std.proofs.lemmas.Bool.{le-leb, leb-true}
pub use Rattle.std.proofs.lemmas.Bool.Decides.{Decides-eqb, nat_tests}
pub use Rattle.std.proofs.lemmas.Fmt.{IsAscii-signed, decimal_digit, decimal_step, length-decimal-le, length_signed_le}
pub use Rattle.std.proofs.lemmas.Grind.{common_steps}
pub use Rattle.std.proofs.lemmas.List.{length-map, length-take-le, map-append, take_more}
pub use Rattle.std.proofs.lemmas.List.Elements.{All-push}
pub use Rattle.std.proofs.lemmas.Slice.Eq.{bytes_eq-Decides, strip_prefix_is}
pub use Rattle.std.proofs.lemmas.Str.{IsUtf8-append, IsUtf8-from_ascii, IsUtf8-from_is_utf8, is_utf8-from_IsUtf8}
pub use Rattle.std.specs.Fmt.{signed_decimal}
pub use Rattle.std.specs.List.{join_with_byte, list_any}
pub use Rattle.std.specs.Prelude.{All, IfOk, IfSome, codes}
pub use Rattle.std.specs.Str.{IsUtf8, is_utf8}
pub use Rattle.json.proofs.Grammar.{left_some, read_key-shorter}
pub use Rattle.json.specs.Json.{after_end_array, parse_map, read_key}
pub use Rattle.json.specs.Lex.{Lexeme, between, colon, fresh, punctuate, string_token, token, tokens}
unfoldable pub use Rattle.json.specs.Lex.{lex}
pub use Rattle.json.specs.Print.{IsPrintable, begins, ends, escape, quoted, separator, token_text}
unfoldable pub use Rattle.json.specs.Print.{ArePrintable, print_from}
pub use Rattle.json.specs.Token.{Token, bad, begin_array, begin_object, boolean, end_array, end_object, key, null}
pub use Rattle.json.specs.Token.{string}
pub use Rattle.json_text.proofs.NextToken.{array_ends, element_read, element_refused, goes_on, mapped-shorter}
pub use Rattle.json_text.proofs.NextToken.{mapped_none, mapped_same, mapped_some}
pub use Rattle.json_text.proofs.NextTokens.{key_refused, member_read, member_refused, members_over, value-shorter}
pub use Rattle.json_text.proofs.NextTokens.{whole_and_more, whole_read, whole_refused}
pub use Rattle.json_text.proofs.Outline.{IsPlain, items_nesting, nesting, parsed_compact, parsed_tokens, plain_items}
pub use Rattle.json_text.proofs.Outline.{plain_number, printable, utf8_ascii, utf8_compact}
pub use Rattle.json_text.specs.Member.{has_only, items_at, members_among, unsigned_at, unsigned_of}
pub use Rattle.json_text.specs.Next.{next_items, next_members, next_value, rest_after}
pub use Rattle.json_text.specs.Step.{after, asked, given}
pub use Rattle.json_text.specs.Text.{parsed}
unfoldable pub use Rattle.serde_json.proofs.OnLiterals.{serde_json_on_literals}
pub use Rattle.serde_json.proofs.Texts.{print-outline}
pub use Rattle.serde_json.proofs.Views.{get_member-put, get_member-put_other, items_len-items_view}
pub use Rattle.serde_json.specs.Data.{Data, Items, Members, item, member, no_items, no_members, number, object, put}
pub use Rattle.serde_json.specs.Events.{items_len}
pub use Rattle.serde_json.specs.Find.{as_array, as_i64, is_float, of_integer}
pub use Rattle.serde_json.specs.Read.{max_depth, read}
pub use Rattle.serde_json.specs.View.{items_of, items_view, view}
pub use Rattle.serde_json.specs.Written.{compact_text, has_float, items_have_float, items_text, number_text}
pub use Rattle.certificate.specs.Certificate.{CertificateData, IsHeld, IsReadable, NamesSamples, PieceData, data_of}
pub use Rattle.certificate.specs.Certificate.{max_entries, max_pieces, piece_data}
pub use Rattle.certificate.specs.Compact.{IsEnding}
pub use Rattle.certificate.specs.Fault.{Answers}
pub use Rattle.certificate.specs.Parts.{PieceParts, TopParts, entries_in, judged, parts_of, piece_from, pieces_and}
pub use Rattle.certificate.specs.Parts.{pieces_in, top_parts_of}
pub use Rattle.certificate.specs.PartsData.{parts_data, pieces_data, whole_data}
pub use Rattle.certificate.specs.Reading.{certificate_from, certificate_of, entries_of, entry_of, pair_of, piece_of}
pub use Rattle.certificate.specs.Reading.{pieces_from, sample_of, top_of}
pub use Rattle.certificate.specs.Refutation.{IsHeldRefutation, RefutationData, max_liars}
pub use Rattle.certificate.specs.RefutationReading.{refutation_from, refutation_of, server_of, servers_of}
pub use Rattle.certificate.specs.RefutationWriting.{refutation_text, refutation_value}
pub use Rattle.certificate.specs.Writing.{certificate_text, certificate_value, comma, comma_before, entry_text}
pub use Rattle.certificate.specs.Writing.{entry_value, number_value, piece_text, piece_value}
pub use Rattle.certificate.specs.declared.certificate.Certificate.{Certificate}
pub use Rattle.certificate.specs.declared.certificate.Piece.{Piece}
pub use Rattle.certificate.specs.declared.fault.CertificateFault.{CertificateFault}
pub use Rattle.certificate.specs.declared.fault.CertificateFault.TheVariants.{Json, Shape, TooManyEntries}
pub use Rattle.certificate.specs.declared.fault.CertificateFault.TheVariants.{TooManyPieces}
