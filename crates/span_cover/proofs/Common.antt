-- What the proofs of this crate name from elsewhere.
pub use Rattle.std.proofs.Common.{Bool, Fits, FitsSigned, List, MatchOption, None, Option, Some, [], add-one, ap, arith}
pub use Rattle.std.proofs.Common.{cond, drop, false, get_or, inl, inr, int_lt, length, nat_eq, neg_ℤ, negsuc, of_z, pos}
pub use Rattle.std.proofs.Common.{refl, replicate, set, subst, suc, sym, take, to_z, true, unsigned_abs, zero, ℕ, ℤ}
pub use Rattle.std.proofs.Common.{⊎_elim, ◌*ℤ◌, ◌*◌, ◌++◌, ◌+ℤ◌, ◌+◌, ◌-ℤ◌, ◌-◌, ◌<ℤ◌, ◌<◌, ◌==◌, ◌^◌, ◌∙◌, ◌∷◌, ◌≡◌}
pub use Rattle.std.proofs.Common.{◌≢◌, ◌≤ℤ◌, ◌≤◌, ◌⊎◌}
pub use Rattle.std.proofs.lemmas.Bool.{cases_eq, cases_lt, eq-eqb, eqb-true, ne_eqb}
pub use Rattle.std.proofs.lemmas.Bool.Decides.{nat_tests}
pub use Rattle.std.proofs.lemmas.Int.{clamps, ints}
pub use Rattle.std.proofs.lemmas.List.{append-nil, drop_all}
pub use Rattle.std.specs.Int.{int_max, int_min}
pub use Rattle.std.specs.Option.{option_and_then, option_map, option_to_list}
pub use Rattle.std.specs.Prelude.{filter, filter_map, fold, slice_get}
pub use Rattle.intersection.specs.declared.kinds.Interval.{Interval}
pub use Rattle.lemma_base.proofs.Int.{int_lt-false, int_lt-true, w128_keeps}
pub use Rattle.sample_interval.specs.Widening.{IsRate, IsWidening, billion, widening}
pub use Rattle.sample_interval.specs.declared.kinds.Sample.{Sample}
pub use mir.Syntax.{w128, w32, w64}
pub use Rattle.span_cover.specs.Best.{HasNoSample, IsBestHigh, IsBestLow, IsFirstBest, best_from, better, first_best_of}
pub use Rattle.span_cover.specs.Best.{merit, pair_of}
unfoldable pub use Rattle.span_cover.specs.Best.{best_of}
pub use Rattle.span_cover.specs.Gathering.{Gathered, Gathering, best_interval, interval_between}
pub use Rattle.span_cover.specs.Group.{AreTheirOwn, group_interval, group_of, narrowed, numbers_below}
pub use Rattle.span_cover.specs.Piece.{IsPiece, change, farthest, piece_interval_of}
unfoldable pub use Rattle.span_cover.specs.Piece.{moved_high, moved_low}
pub use Rattle.span_cover.specs.declared.part.Part.{Part}
