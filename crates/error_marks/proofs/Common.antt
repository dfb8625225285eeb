-- What the proofs of this crate name from elsewhere.
pub use Rattle.std.proofs.Common.{Bool, FitsSigned, IsPermutation, IsTrue, List, ap, arith, drop, false, get_or, length}
pub use Rattle.std.proofs.Common.{negsuc, of_z, pos, refl, rules, subst, suc, sym, take, to_z, true, unsigned_abs, zero}
pub use Rattle.std.proofs.Common.{ℕ, ℤ, ⊎_elim, ◌*ℤ◌, ◌*◌, ◌+ℤ◌, ◌+◌, ◌-ℤ◌, ◌-◌, ◌/◌, ◌<ℤ◌, ◌<◌, ◌^◌, ◌↔◌, ◌∙◌, ◌≡◌}
pub use Rattle.std.proofs.Common.{◌≤ℤ◌, ◌≤◌}
pub use Rattle.std.proofs.Math.Nat.{mul-le-mul_left, mul-le-mul_right}
pub use Rattle.std.proofs.lemmas.Bool.{cases_lt}
pub use Rattle.std.proofs.lemmas.Int.{by_lt_z, clamps, fits_signed_from_abs, ints, unsigned_abs-mul}
pub use Rattle.std.proofs.lemmas.List.{get_or-drop, get_or-take, get_or_default, length-drop, length-take-le}
pub use Rattle.std.proofs.lemmas.List.Elements.{AllWithin-more}
pub use Rattle.std.proofs.lemmas.List.Sorted.{All-permutation, IsPermutation-sym, answers_always, ranks_by, sorted_far}
pub use Rattle.std.specs.Int.Signed.{≤ℤ_refl}
pub use Rattle.std.specs.List.{All, AllWithin, HoldsAt}
pub use Rattle.lemma_base.proofs.Int.{w128_keeps, ≤ℤ-from_equal, ≤ℤ-from_lt, ≤ℤ_antisymm, ≤ℤ_trans}
pub use Rattle.lemma_base.proofs.Int.{w128_keeps_difference}
pub use Rattle.lemma_base.proofs.Nat.{lt_next_cases}
pub use Rattle.sample_interval.proofs.NoOverflow.{kept_sum, less_fits, less_is, more_fits, more_is, rest_fits, stamp_is}
pub use Rattle.sample_interval.specs.Widening.{IsRate, billion}
pub use lib.Signed.{le_z}
pub use mir.Syntax.{w128}
pub use Rattle.error_marks.specs.Compatible.{AllCompatible}
pub use Rattle.error_marks.specs.Conflict.{AreInFront, FitsAll}
pub use Rattle.error_marks.specs.Direction.{AllKeepBelow, IsBelow, IsInOrder, KeepsBelow, Precedes, line_along}
pub use Rattle.error_marks.specs.Line.{falling_line, rising_line}
pub use Rattle.error_marks.specs.Mark.{AreCompatible, IsPossible, high_mark, low_mark}
pub use Rattle.error_marks.specs.Passage.{HasPassed, IsHighest}
pub use Rattle.error_marks.specs.Range.{IsWithinRange}
pub use Rattle.error_marks.specs.declared.mark.Mark.{Mark}
