-- What the proofs of this crate name from elsewhere.
pub use Rattle.std.proofs.Common.{Bool, FitsSigned, IsSome, List, MatchOption, None, Option, Some, [], add-one, ap}
pub use Rattle.std.proofs.Common.{arith, cond, false, get_or, inl, inr, length, length-set, map, max, neg_ℤ, of_z, pos}
pub use Rattle.std.proofs.Common.{refl, reverse, rules, set, subst, suc, sym, take, to_z, true, true≢false}
pub use Rattle.std.proofs.Common.{unsigned_abs, zero, ℕ, ℤ, ⊎_elim, ◌*◌, ◌++◌, ◌+ℤ◌, ◌+◌, ◌-ℤ◌, ◌-◌, ◌/◌, ◌<ℤ◌, ◌<◌}
pub use Rattle.std.proofs.Common.{◌^◌, ◌∙◌, ◌∷◌, ◌≡◌, ◌≢◌, ◌≤ℤ◌, ◌≤◌, ◌⊎◌}
pub use Rattle.std.proofs.Math.Nat.{div-div-eq-div-mul, div-mul-le_self, div-one, le_of_mul-le-mul_left, mul-add-div}
pub use Rattle.std.proofs.Math.Nat.{mul-le-mul_right}
pub use Rattle.std.proofs.lemmas.Bool.{cases_eq, cases_lt, eq-eqb}
pub use Rattle.std.proofs.lemmas.Bool.Decides.{nat_tests}
pub use Rattle.std.proofs.lemmas.Grind.{common_steps}
pub use Rattle.std.proofs.lemmas.Int.{clamps, ints, to_z-of_z}
pub use Rattle.std.proofs.lemmas.List.{append-nil, get_or-map, get_or-reverse, get_or-set_other, get_or-set_same}
pub use Rattle.std.proofs.lemmas.List.{length-append, length-map, length-reverse, map-append, map_more, take_all}
pub use Rattle.std.proofs.lemmas.List.{take_more}
pub use Rattle.std.proofs.lemmas.List.Elements.{All-map, All-push, All-weaker, filter-append, filter_map-append}
pub use Rattle.std.proofs.lemmas.List.Sorted.{All-permutation, Contains-permutation, IsNonDecreasingBy-from_sort_by_key}
pub use Rattle.std.proofs.lemmas.List.Sorted.{IsPermutation-reverse, IsPermutation-sym}
pub use Rattle.std.proofs.lemmas.Nat.{le-div}
pub use Rattle.std.proofs.lemmas.Option.{get_or_from_slice_get, same_Some, slice_get-get_or, slice_get-map}
pub use Rattle.std.proofs.lemmas.Option.{slice_get_read, slice_get_within}
pub use Rattle.std.specs.List.{All, cons_option, filter, filter_map, range_with_len, slice_get}
pub use Rattle.std.specs.Option.{option_map}
pub use Rattle.intersection.specs.declared.ends.Side.{Side}
pub use Rattle.intersection.specs.declared.ends.Side.TheVariants.{High, Low}
pub use Rattle.lemma_base.proofs.List.{All-slice_get, range_with_len_more, slice_get-below}
pub use Rattle.sample_interval.specs.Widening.{IsRate, IsWidening, billion, widening}
pub use Rattle.sample_interval.specs.declared.kinds.Sample.{Sample}
pub use Rattle.span_cover.specs.Best.{HasNoSample, IsBestHigh, IsBestLow, IsFirstBest, best_of, merit}
pub use Rattle.span_cover.specs.Piece.{IsPiece, farthest}
unfoldable pub use Rattle.span_cover.specs.Piece.{moved_high, moved_low}
pub use Rattle.span_cover.specs.declared.part.Part.{Part}
pub use mir.Syntax.{w128}
pub use Rattle.sweep.specs.Block.{AreBlocksOf, AreLimitsOf, AreUpto, IsFirstBlock, IsLimitOf, IsReached}
pub use Rattle.sweep.specs.Extreme.{AreExtremesOf, IsEndAt, IsExtremeOf, IsFromOrigin, IsLawfulExtreme, IsOfServer}
pub use Rattle.sweep.specs.Extreme.{mirrored_extreme, seen, seen_one}
pub use Rattle.sweep.specs.Lead.{IsLead}
pub use Rattle.sweep.specs.Passage.{IsWantedBelow, Reaches}
pub use Rattle.sweep.specs.Pieces.{AreBestOfPieces, ArePairsOf, ArePieces, IsPieceAt}
pub use Rattle.sweep.specs.PrefixMaximum.{AreMaximaOf, IsBracket, IsEarlyLevel, IsHeightUpto, IsMaximumOf, IsTopped}
pub use Rattle.sweep.specs.PrefixMaximum.{MaximaRise}
pub use Rattle.sweep.specs.Queue.{AreArrivalsOf, IsArrivalAt, IsArrivalOf, IsQueueOf, index_at}
pub use Rattle.sweep.specs.Table.{AreTablesOf, IsLevelOver, IsTableOf, best_part, best_parts, has_sample}
pub use Rattle.sweep.specs.Top.{AreEarlyTops, AreLateTops, AreOver, AreTopNumbers, AreTopsOver, IsAtLeast, IsEarly}
pub use Rattle.sweep.specs.Top.{IsEarlyAtLeast, IsTop, IsTopNumber, IsTopOf, distance, height, height_for, higher_of}
pub use Rattle.sweep.specs.Top.{is_above}
pub use Rattle.sweep.specs.UnsignedStretch.{AreStretchesOf, IsLawfulStretch, IsStretchOf, MiddlesRise, mirrored_stretch}
pub use Rattle.sweep.specs.declared.block.Blocks.{Blocks}
pub use Rattle.sweep.specs.declared.extreme.Extreme.{Extreme}
pub use Rattle.sweep.specs.declared.lead.Lead.{Lead}
pub use Rattle.sweep.specs.declared.passage.Wanted.{Wanted}
pub use Rattle.sweep.specs.declared.prefix_maximum.PrefixMaximum.{PrefixMaximum}
pub use Rattle.sweep.specs.declared.queue.Arrival.{Arrival}
pub use Rattle.sweep.specs.declared.table.BestTable.{BestTable}
pub use Rattle.sweep.specs.declared.top.Top.{Top}
pub use Rattle.sweep.specs.declared.unsigned_stretch.UnsignedStretch.{UnsignedStretch}
