-- The intervals of groups, one group after another.
use Rattle.span_cover.proofs.Common.{◌≡◌, ℕ, ◌+◌, [], ◌∷◌, ◌++◌, Option, Some, None, sym, add-one, filter_map, append-nil, Interval, numbers_below, arith, ints, nat_tests}
use Rattle.std.proofs.lemmas.List.Elements.{filter_map-append}

module _ (h : ℕ → Option Interval) (g : ℕ) where
  one_more : filter_map h (numbers_below (g + 1)) ≡ filter_map h (numbers_below g) ++ filter_map h (g ∷ [])
  one_more = rw add-one (filter_map-append h (numbers_below g) (g ∷ []))

  pub with_interval : (interval : Interval) → h g ≡ Some interval
      → filter_map h (numbers_below g) ++ interval ∷ [] ≡ filter_map h (numbers_below (g + 1))
  with_interval interval is = grind (arith, ints, nat_tests, one_more)

  pub without_interval : h g ≡ None → filter_map h (numbers_below g) ≡ filter_map h (numbers_below (g + 1))
  without_interval is = grind (arith, append-nil (filter_map h (numbers_below g)), sym one_more)
