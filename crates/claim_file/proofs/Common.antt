-- What the proofs of this crate name from elsewhere.
pub use Rattle.std.proofs.Common.{Bool, Err, FitsSigned, Global, IsUtf8, List, None, Ok, Option, Result, Some, Vec, []}
pub use Rattle.std.proofs.Common.{ap, append-nil, append_assoc, arith, cond, drop, drop-cons, false, get_or}
pub use Rattle.std.proofs.Common.{if◌then◌else◌, inl, inr, length, length-append, lit≤, map, nat_lt, negsuc, not}
pub use Rattle.std.proofs.Common.{option_and_then, option_map, pos, refl, rules, subst, suc, sym, true, true≢false}
pub use Rattle.std.proofs.Common.{unwrap_or, w64, zero, ℕ, ℤ, ◌%◌, ◌&&◌, ◌*◌, ◌++◌, ◌+◌, ◌-◌, ◌/◌, ◌<◌, ◌==◌, ◌^◌, ◌↔◌}
pub use Rattle.std.proofs.Common.{◌∙◌, ◌∷◌, ◌≡◌, ◌≢◌, ◌≤◌}
pub use Rattle.std.proofs.lemmas.Bool.{and_parts, leb-true, lt-ltb, ltb-false, ltb-true, not-true}
pub use Rattle.std.proofs.lemmas.Bool.Decides.{Decides-eqb, nat_tests}
pub use Rattle.std.proofs.lemmas.Int.{ints, to_z-of_z}
pub use Rattle.std.proofs.lemmas.List.FromFn.{get_or-map-range_with_len, get_or-range_with_len}
pub use Rattle.std.proofs.lemmas.List.FromFn.{length-map-range_with_len, length-range_with_len}
pub use Rattle.std.proofs.lemmas.List.Sums.{AllPass-from_list_all, sum_by-append, sum_by-cons}
pub use Rattle.std.proofs.lemmas.Slice.Eq.{bytes_eq-Decides}
pub use Rattle.std.specs.List.{concat, list_all, list_any, position_from, range_with_len}
pub use Rattle.std.specs.Net.Grammar.{IsDotted, IsIpv4Text}
unfoldable pub use Rattle.std.specs.Net.Reader.{read_ipv4, read_number, read_octet}
pub use Rattle.std.specs.Prelude.{All, AllPairs, Contains, IfOk, IsSomeAnd, codes, decimal, slice_get}
pub use Rattle.std.specs.Str.{bytes_eq}
unfoldable pub use Rattle.std.specs.Str.{chars, is_utf8}
unfoldable pub use Rattle.era_unfold.specs.Nanoseconds.{ticks_down, ticks_up}
unfoldable pub use Rattle.era_unfold.specs.Ratio.{ceiling_of, floor_of}
pub use Rattle.jiff_core.proofs.CalendarLemmas.{days_in_month_bounds}
pub use Rattle.jiff_core.specs.Calendar.{IsCivilDate, days_in_month}
unfoldable pub use Rattle.jiff_core.specs.Calendar.{day_count, days_from_civil, days_of_months, days_of_years}
pub use Rattle.json_text.proofs.Steps.{after_by, asked_by, given_by}
pub use Rattle.json_text.specs.Step.{after, given}
pub use Rattle.json_text.specs.Text.{parsed}
unfoldable pub use Rattle.serde_json.proofs.OnLiterals.{serde_json_on_literals}
pub use Rattle.serde_json.specs.Data.{array, string}
pub use Rattle.serde_json.specs.View.{items_of, items_view}
pub use Rattle.claim_file.specs.Address.{address_of, addresses_of, are_different, whole}
pub use Rattle.claim_file.specs.Claim.{ClaimData, IsLawful, IsWithoutGap, data_of, group_count, max_bound, max_bound_ns, with_bound}
pub use Rattle.claim_file.specs.Fault.{Answers}
pub use Rattle.claim_file.specs.Fields.{FieldsData, all_of, fields_data, fields_of, number_lists_of, numbers_of}
pub use Rattle.claim_file.specs.Fields.{texts_of}
pub use Rattle.claim_file.specs.Group.{IsInGroup, group_of, groups_of, is_grouping, servers_of, times_listed}
pub use Rattle.claim_file.specs.Reading.{NamedData, claim_from, claim_of, claim_with, is_in_range, named_of}
pub use Rattle.claim_file.specs.Reading.{within_limits}
pub use Rattle.claim_file.specs.Time.{IsTime, date_time_at, exists, in_u32, pair_value, spelling, time_of}
pub use Rattle.era_unfold.specs.Digits.{two_digits}
pub use Rattle.claim_file.specs.Time.{unix_second}
pub use Rattle.claim_file.specs.declared.fault.ClaimFault.{ClaimFault}
pub use Rattle.claim_file.specs.declared.fault.ClaimFault.TheVariants.{Groups, Json, Memory}
