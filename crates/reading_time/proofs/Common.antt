-- What the proofs of this crate name from elsewhere.
pub use Rattle.std.proofs.Common.{Bool, Err, IsUtf8, List, None, Ok, Option, Result, Some, [], ap, append-nil}
pub use Rattle.std.proofs.Common.{length-append, append_assoc, arith, codes, drop, false, get_or, inl, inr, length, map, not, option_map}
pub use Rattle.std.proofs.Common.{pos, refl, rules, subst, suc, sym, take, true, zero, ℕ, ◌%◌, ◌&&◌, ◌*◌, ◌++◌, ◌+◌}
pub use Rattle.std.proofs.Common.{◌-◌, ◌/◌, ◌<◌, ◌==◌, ◌^◌, ◌∙◌, ◌∷◌, ◌≡◌, ◌≢◌, ◌≤◌, if◌then◌else◌, nat_lt, ⊎_elim}
pub use Rattle.std.proofs.Math.Nat.{one-le-pow, pow-le-pow_right, add_assoc}
pub use Rattle.std.proofs.lemmas.Bool.{eqb-true, and_parts, leb-true, ltb-true, cases_lt}
pub use Rattle.std.proofs.lemmas.Bool.Decides.{nat_tests}
pub use Rattle.std.proofs.lemmas.Grind.{pow_more}
pub use Rattle.std.proofs.lemmas.Int.{ints}
pub use Rattle.std.proofs.lemmas.List.Folds.{list_all_at}
pub use Rattle.std.proofs.lemmas.List.Sums.{AllPass-from_list_all}
pub use Rattle.std.specs.List.{list_all, prefix_len}
pub use Rattle.std.specs.Str.{IsAscii}
pub use Rattle.claim_file.specs.Time.{IsTime, time_of}
unfoldable pub use Rattle.era_unfold.specs.Ratio.{ceiling_of, floor_of}
pub use Rattle.era_unfold.specs.Ratio.{IsCeiling, IsFloor}
pub use Rattle.era_unfold.specs.Digits.{two_digits}
pub use Rattle.era_unfold.specs.Window.{ticks_per_second}
pub use Rattle.reading_time.specs.Reading.{ReadingData, is_digit, number_from, number_of, parts_of, reading_data, reading_of}
unfoldable pub use Rattle.reading_time.specs.Reading.{begin_of, end_of}
pub use Rattle.reading_time.specs.Times.{first_line, is_no_feed, last_line, lines_from, most_readings, read_before}
pub use Rattle.reading_time.specs.Times.{readings_from, rest_of, times_of}
pub use Rattle.reading_time.specs.declared.fault.TimesFault.{TimesFault}
pub use Rattle.reading_time.specs.declared.fault.TimesFault.TheVariants.{Time, TooMany}
