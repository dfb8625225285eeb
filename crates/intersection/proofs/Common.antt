-- What the proofs of this crate name from elsewhere.
pub use Rattle.std.proofs.Common.{Bool, FitsSigned, IfSome, IsPermutation, List, None, Option, Ordering, Some, [], ap}
pub use Rattle.std.proofs.Common.{arith, cond, count_by, drop, false, get_or, inl, inr, int_le, int_lt, length, nat_le}
pub use Rattle.std.proofs.Common.{negsuc, not, of_z, pos, refl, reverse, rules, subst, suc, sym, take, to_z, true, ℕ, ℤ}
pub use Rattle.std.proofs.Common.{⊎_elim, ◌&&◌, ◌*ℤ◌, ◌++◌, ◌+ℤ◌, ◌+◌, ◌-◌, ◌/◌, ◌<ℤ◌, ◌<◌, ◌||◌, ◌↔◌, ◌∙◌, ◌∷◌, ◌≡◌}
pub use Rattle.std.proofs.Common.{◌≤ℤ◌, ◌≤◌, ◌⊎◌}
pub use Rattle.std.proofs.lemmas.Bool.{and_from, and_left, and_right, cond-false, cond-true, not_from_false}
pub use Rattle.std.proofs.lemmas.Bool.{not_from_true}
pub use Rattle.std.proofs.lemmas.Bool.Decides.{nat_tests}
pub use Rattle.std.proofs.lemmas.Int.{by_lt_z, clamps, ints, to_z-of_z}
pub use Rattle.std.proofs.lemmas.List.Sorted.{IsPermutation-reverse, IsPermutation-trans, length_permutation, ranks_by}
pub use Rattle.std.proofs.lemmas.List.Sorted.{sorted_far, sum_by-IsPermutation}
pub use Rattle.std.proofs.lemmas.List.Sums.{sum_by-append, sum_by-cons, sum_by-le-sum_by}
pub use Rattle.std.specs.Int.{int_max, int_min, w128}
pub use Rattle.std.specs.List.{AllByRecursion, flat_map, sum_by}
pub use Rattle.std.specs.Prelude.{AllPairs, IsSorted, filter, fold, ⊤}
pub use Rattle.arrayvec.proofs.ArrayVecLemmas.{items-with_items}
pub use Rattle.intersection.specs.Ends.{IsInOrder, MayPrecede, ends_of, enters, high_end, is_low, low_end}
pub use Rattle.intersection.specs.Fineness.{times-add, times_le}
pub use Rattle.intersection.specs.Fraction.{HoldsFraction, HullHoldsFraction, IsAdmissibleFraction, LeavesFractionOut}
pub use Rattle.intersection.specs.Hull.{DescribesHull, HullHolds, IfBounded, IsAdmissible, IsGreatestAdmissible, IsHull}
pub use Rattle.intersection.specs.Hull.{IsLeastAdmissible, admissible_ends, count_leaving_out, end_points, range_of}
unfoldable pub use Rattle.intersection.specs.Hull.{hull_of}
pub use Rattle.intersection.specs.Interval.{LeavesOut, leaves_out}
pub use Rattle.intersection.specs.Marzullo.{first_reached}
pub use Rattle.intersection.specs.declared.ends.End.{End}
pub use Rattle.intersection.specs.declared.ends.Side.{Side}
pub use Rattle.intersection.specs.declared.ends.Side.TheVariants.{High, Low}
pub use Rattle.intersection.specs.declared.kinds.Hull.{Hull}
pub use Rattle.intersection.specs.declared.kinds.Hull.TheVariants.{Bounded, Empty, Unbounded}
pub use Rattle.intersection.specs.declared.kinds.Interval.{Interval}
pub use Rattle.lemma_base.proofs.Bool.{by_test}
pub use Rattle.lemma_base.proofs.Int.{≤ℤ_trans}
