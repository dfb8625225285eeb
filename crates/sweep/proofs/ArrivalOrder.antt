-- The arrivals of extremes, in order.
use Rattle.sweep.proofs.Common.{◌≡◌, ℕ, ◌+◌, ◌-◌, ◌*◌, ◌<◌, ◌^◌, Bool, true, false, List, [], ◌∷◌, ◌++◌, length, Some, refl, arith, ◌∙◌, ap, slice_get, length-append, length-map, Contains-permutation, IsPermutation-sym, slice_get-get_or, slice_get_within, get_or_from_slice_get, IsRate, billion, IsLawfulExtreme, mirrored_extreme, seen, seen_one, IsArrivalOf, IsArrivalAt, AreArrivalsOf, IsQueueOf, index_at, Extreme, Arrival, slice_get-below}
use Rattle.std.specs.List.Sorted.{IsPermutation, IsNonDecreasingBy}
use Rattle.sweep.proofs.List.{each_pushed, map_at}

-- each extreme has its turn
index_at_twice : (backwards : Bool) (count turn : ℕ) → turn < count → (index_at backwards count turn < count)
    × (index_at backwards count (index_at backwards count turn) ≡ turn)
index_at_twice false count turn less = (less, refl)
index_at_twice true count turn less = (omega arith, omega arith)

-- what stands in a list stands somewhere in the same in another order
permuted_at : {X : Type 0} (xs ys : List X) → IsPermutation xs ys → (i : ℕ) (x : X) → slice_get xs i ≡ Some x →
    (j : ℕ) × (slice_get ys j ≡ Some x)
permuted_at xs ys moved i x is =
    let there = Contains-permutation xs ys x moved
    (i, slice_get_within xs i x is, get_or_from_slice_get xs i x x is) in
    (there.0, slice_get-get_or ys there.0 x there.1 ∙ ap Some there.2)

module _ (ppb : ℕ) (backwards : Bool) (extremes : List Extreme) (arrivals queue : List Arrival)
    (are : AreArrivalsOf ppb backwards extremes arrivals)
    (moved : IsPermutation arrivals queue) (sorted : IsNonDecreasingBy (λ a. a.at) queue) where
  own : (i : ℕ) (a : Arrival) → slice_get queue i ≡ Some a → IsArrivalOf ppb extremes a × (a.height < 2 ^ 110)
  own i a is =
      let there = permuted_at queue arrivals (IsPermutation-sym arrivals queue moved) i a is in
      let at = are.each there.0 a there.1 in
      (at.1, at.2)

  pub IsQueueOf-sorted : IsQueueOf ppb extremes queue
  IsQueueOf-sorted = record {
    each = λ i a is. (own i a is).0;
    all = λ index extreme is.
        let turn = index_at_twice backwards (length extremes) index (slice_get_within extremes index extreme is) in
        let stands = slice_get-below arrivals (index_at backwards (length extremes) index) (rw are.as_many turn.0) in
        let stood = permuted_at arrivals queue moved _ stands.0 stands.1 in
        (stood.0, stands.0, stood.1, (are.each _ stands.0 stands.1).0 ∙ turn.1);
    small = λ i a is. (own i a is).1;
    in_order = λ i j a b le at_i at_j.
        grind (
          arith,
          sorted i j a le (slice_get_within queue j b at_j),
          get_or_from_slice_get queue i a a at_i,
          get_or_from_slice_get queue j b a at_j,
        );
  }

-- ---- the arrivals one by one
pub record ArrivalsSoFar (ppb : ℕ) (backwards : Bool) (extremes : List Extreme) (n : ℕ) (arrivals : List Arrival)
    : Type 0 where
  pub as_many : length arrivals ≡ n
  pub each : (i : ℕ) (a : Arrival) → slice_get arrivals i ≡ Some a →
      IsArrivalAt ppb extremes (index_at backwards (length extremes) i) a

pub ArrivalsSoFar-more : (ppb : ℕ) (backwards : Bool) (extremes : List Extreme) (n : ℕ) (arrivals : List Arrival)
    (a : Arrival) → ArrivalsSoFar ppb backwards extremes n arrivals →
    IsArrivalAt ppb extremes (index_at backwards (length extremes) n) a →
    ArrivalsSoFar ppb backwards extremes (n + 1) (arrivals ++ a ∷ [])
ArrivalsSoFar-more ppb backwards extremes n arrivals a so_far here = record {
  as_many = omega (arith, length-append arrivals (a ∷ []), so_far.as_many);
  each = each_pushed (λ i. IsArrivalAt ppb extremes (index_at backwards (length extremes) i)) arrivals a so_far.each
      (rw so_far.as_many here);
}

-- as time runs forwards or backwards
pub seen_at : (backwards : Bool) (extremes : List Extreme) (index : ℕ) (extreme : Extreme) →
    slice_get extremes index ≡ Some extreme →
    slice_get (seen backwards extremes) index ≡ Some (seen_one backwards extreme)
seen_at false extremes index extreme is = is
seen_at true extremes index extreme is = map_at mirrored_extreme extremes index extreme is

pub length_seen : (backwards : Bool) (extremes : List Extreme) →
    length (seen backwards extremes) ≡ length extremes
length_seen false extremes = refl
length_seen true extremes = length-map extremes mirrored_extreme

-- the arrival that the code makes
pub arrival_here : (ppb rate place index : ℕ) (extremes : List Extreme) (extreme : Extreme) → IsRate ppb →
    rate ≡ ppb → index ≡ place → slice_get extremes index ≡ Some extreme → IsLawfulExtreme extreme →
    IsArrivalAt ppb extremes place (record {
      at = extreme.from + extreme.to;
      height = (billion - rate) * extreme.end + rate * extreme.from;
      index = index;
    })
arrival_here ppb rate place index extremes extreme slow same here stands lawful = grind arith
