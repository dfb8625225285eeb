-- What the proofs of this crate name from elsewhere.
pub use Rattle.std.proofs.Common.{Bool, Bor, Global, List, None, Option, Some, String, [], ap, append-nil, arith, drop}
pub use Rattle.std.proofs.Common.{false, get_or, if◌then◌else◌, length, length-drop, lt-ltb, map, ne_eqb}
pub use Rattle.std.proofs.Common.{option_and_then, option_map, refl, string_bytes, suc, sym, take_all, true, zero, ℕ}
pub use Rattle.std.proofs.Common.{◌&&◌, ◌*◌, ◌++◌, ◌+◌, ◌-◌, ◌<◌, ◌==◌, ◌^◌, ◌||◌, ◌∙◌, ◌∷◌, ◌≡◌, ◌≤◌}
pub use Rattle.std.proofs.lemmas.Str.{IsUtf8-append, IsUtf8-from_ascii, IsUtf8-from_is_utf8, is_utf8-from_IsUtf8}
pub use Rattle.std.specs.Prelude.{All, IsUtf8, decimal, ⊤}
pub use Rattle.std.specs.Str.{bytes_eq, is_utf8}
pub use Rattle.std.specs.Str.Parse.{AllDigits, IsNumeral, digits_value, digits_value_after}
pub use Rattle.fast_float.specs.Text.{IsWellFormed, Parts, digits_of, scan}
pub use Rattle.json.proofs.Grammar.{Takes, items_end, items_fail, items_more, left, left-parse_map, left_none}
pub use Rattle.json.proofs.Grammar.{left_some, members_end, members_more, members_no_key, read_key-shorter}
pub use Rattle.json.proofs.Grammar.{skip_value-shorter, value-begin_array, value-begin_object, value_is}
pub use Rattle.json.specs.Json.{Parse, after_end_array, items_step, members_step, parse_map, read_key}
unfoldable pub use Rattle.json.specs.Json.{items, members, value}
pub use Rattle.json.specs.Lex.{tokens}
pub use Rattle.json.specs.Token.{Token}
pub use Rattle.serde_json.specs.Data.{Data, Items, Members, Num, array, boolean, float, item, member, negative}
pub use Rattle.serde_json.specs.Data.{no_items, no_members, null, number, object, put, string, unsigned}
pub use Rattle.serde_json.specs.Find.{as_object, as_u64}
pub use Rattle.serde_json.specs.Read.{converted, is_integer, max_depth, number_from, of_items, of_json, of_members}
pub use Rattle.serde_json.specs.Read.{read}
unfoldable pub use Rattle.serde_json.specs.Read.{number_of}
pub use Rattle.serde_json.specs.View.{items_of, members_view}
pub use Rattle.serde_json.specs.Written.{comma_if, compact_text, items_outline, items_text, members_outline}
pub use Rattle.serde_json.specs.Written.{members_text, number_text, outline}
pub use Rattle.json_text.specs.Next.{IsOther, rest_after}
unfoldable pub use Rattle.json_text.specs.Next.{next_items, next_members, next_value}
