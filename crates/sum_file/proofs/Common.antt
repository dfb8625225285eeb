-- What the proofs of this crate name from elsewhere.
pub use Rattle.std.proofs.Common.{Bool, Bor, Err, List, None, Ok, Option, Result, Some, [], ap, append_assoc, arith}
pub use Rattle.std.proofs.Common.{cond, drop, drop-cons, false, get_or, inl, inr, is_none, is_ok, length, length-append}
pub use Rattle.std.proofs.Common.{length-drop, ltb, map, nat_eq, not, ok_or, option_and_then, option_map, refl, rules}
pub use Rattle.std.proofs.Common.{subst, suc, sym, take, tests, true, true≢false, unwrap_or, zero, ℕ, ◌&&◌, ◌++◌, ◌+◌}
pub use Rattle.std.proofs.Common.{◌-◌, ◌<◌, ◌==◌, ◌||◌, ◌↔◌, ◌∙◌, ◌∷◌, ◌≡◌, ◌≢◌, ◌≤◌, ◌⊎◌}
pub use Rattle.std.proofs.Math.Seq.{append_snoc, drop-append-add, drop-append_seam, get_or-append_seam}
pub use Rattle.std.proofs.Math.Seq.{take-append_seam}
pub use Rattle.std.proofs.lemmas.Bool.{and_cases, and_from, and_parts, cases_Bool, cond-false, cond-true, cond_both}
pub use Rattle.std.proofs.lemmas.Bool.{eq-eqb, eqb-true, false_from_ne_true, lt-ltb, ltb-true, ne_eqb, not-false}
pub use Rattle.std.proofs.lemmas.Bool.{not-true, not_from_false, or_cases, or_from, or_left, or_parts, or_right}
pub use Rattle.std.proofs.lemmas.Iterator.{YieldsList-from_slice}
pub use Rattle.std.proofs.lemmas.Iterator.Search.{all_from_yields_List, find_from_yields_List}
pub use Rattle.std.proofs.lemmas.List.{append-nil, get_or-append-add, get_or_append_left, length-map, map-append}
pub use Rattle.std.proofs.lemmas.List.{take-append-drop, take-append-le, take_more}
pub use Rattle.std.proofs.lemmas.List.Elements.{All-head, All-tail}
pub use Rattle.std.proofs.lemmas.List.Folds.{concat-append, list_all-append, list_all-map}
pub use Rattle.std.proofs.lemmas.List.Sums.{AllPass-from_list_all, list_all-from_AllPass}
pub use Rattle.std.proofs.lemmas.Slice.Eq.{bytes_eq-Decides}
pub use Rattle.std.specs.List.{All, AllPairs, Any, Contains, concat, find, list_all, range_with_len, slice_index}
pub use Rattle.std.specs.List.{slice_split}
pub use Rattle.std.specs.Str.{bytes_eq}
pub use Rattle.hex.proofs.HexLemmas.{IsOk-decode_sized, decode_sized-encode_lower}
pub use Rattle.hex.specs.Hex.{decode_sized, encode_lower, is_hex_digit}
pub use Rattle.sum_file.specs.Line.{IsMark, Says, asterisk, is_escaped, line_of, name_of, parts_of, space, sum_with}
pub use Rattle.sum_file.specs.Line.{without_backslash, written}
pub use Rattle.sum_file.specs.Name.{backslash, carriage_return, escape, escaped, followed, has_special, is_special}
pub use Rattle.sum_file.specs.Name.{line_feed, unescape, unescaped}
pub use Rattle.sum_file.specs.Reading.{HasNoFeed, IsFirstBad, IsGiven, agreed, all_said, ended, first_bad, given_in}
pub use Rattle.sum_file.specs.Reading.{lines_of, sum_given, sums_of, text_of, without_last}
pub use Rattle.sum_file.specs.Sum.{Agree, Disagree, IsWritable, SumData, agree, all_agree, data_of, digest_named}
pub use Rattle.sum_file.specs.declared.fault.SumFault.{SumFault}
pub use Rattle.sum_file.specs.declared.fault.SumFault.TheVariants.{Form, Memory}
pub use Rattle.sum_file.specs.declared.sum.Sum.{Sum}
