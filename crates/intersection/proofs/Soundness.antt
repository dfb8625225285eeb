-- The points where Marzullo's walks stop are the ends of the hull: what was entered and left, against what is left out.
use Rattle.intersection.proofs.Common.{◌≡◌, ℕ, ◌+◌, ◌-◌, ◌<◌, ℤ, int_lt, int_le, Bool, true, false, cond, not, ◌&&◌, ◌||◌, List, [], ◌∷◌, ◌++◌, length, reverse, Option, Some, None, IfSome, IsPermutation, refl, sym, ◌∙◌, arith, AllPairs, flat_map, sum_by, ints, by_lt_z, sum_by-cons, sum_by-append, sum_by-IsPermutation, IsPermutation-trans, IsPermutation-reverse, leaves_out, count_leaving_out, IsAdmissible, IsHull, low_end, high_end, ends_of, MayPrecede, IsInOrder, enters, first_reached, Interval, Empty, Bounded, End, Side, Low, High}
use Rattle.intersection.proofs.Walks.{Follows, is_met, IsShortOf, entered_by, left_by, ordered_from_pairs, pairs_reversed, short_of_stop, stop_reaches}

-- ---- ends against intervals
balance_at : (walk : Side) (lo hi p : ℤ) (b : Bool) → int_le lo hi ≡ b → let ends : List End =
    cond b (record { at = lo; side = Low } ∷ []) [] ++ cond b (record { at = hi; side = High } ∷ []) [] in
    left_by walk p ends + 1 ≡ entered_by walk p ends + cond (int_lt p lo || int_lt hi p) 1 0
balance_at Low lo hi p true h = grind (arith, ints)
balance_at Low lo hi p false h = grind (arith, ints)
balance_at High lo hi p true h = grind (arith, ints)
balance_at High lo hi p false h = grind (arith, ints)

-- of an interval's ends one more is entered than left before p if the interval holds p, and otherwise as many
balance_one : (walk : Side) (interval : Interval) (p : ℤ) → let ends : List End =
    low_end interval ++ high_end interval in
    left_by walk p ends + 1 ≡ entered_by walk p ends + cond (leaves_out interval p) 1 0
balance_one walk interval p = balance_at walk interval.lo interval.hi p (int_le interval.lo interval.hi) refl

-- what is counted of the ends of a list is what is counted of the first interval's and of the others'
counted_apart : (f : End → ℕ) (interval : Interval) (list : List Interval)
    → sum_by f (ends_of (interval ∷ list)) ≡ sum_by f (low_end interval ++ high_end interval) + sum_by f (ends_of list)
counted_apart f interval list = grind (arith, flat_map, low_end, high_end, sum_by-append)

pub balance : (walk : Side) (list : List Interval) (p : ℤ)
    → left_by walk p (ends_of list) + length list ≡ entered_by walk p (ends_of list) + count_leaving_out list p
balance walk [] p = refl
balance walk (interval ∷ list) p =
    let rest = balance walk list p in
    let one = balance_one walk interval p in
    let left = counted_apart (λ e. cond (not (enters walk e) && is_met walk p e) 1 0) interval list in
    let entered = counted_apart (λ e. cond (enters walk e && is_met walk p e) 1 0) interval list in
    let out = sum_by-cons (λ i. cond (leaves_out i p) 1 0) interval list in
    omega arith

-- the same for the ends in any order
balance_moved : (walk : Side) (list : List Interval) (ends : List End) (p : ℤ) → IsPermutation (ends_of list) ends
    → left_by walk p ends + length list ≡ entered_by walk p ends + count_leaving_out list p
balance_moved walk list ends p moved =
    omega (
      arith,
      balance walk list p,
      sum_by-IsPermutation (λ e. cond (not (enters walk e) && is_met walk p e) 1 0)
          (ends_of list) ends moved,
      sum_by-IsPermutation (λ e. cond (enters walk e && is_met walk p e) 1 0) (ends_of list)
          ends moved,
    )

-- ---- the point where a walk stops
-- where a walk along the ends of the list stops, for a number of wrong intervals below the length
pub record Stops (walk : Side) (list : List Interval) (f : ℕ) (r : Option ℤ) : Type 0 where
  pub nowhere : r ≡ None → (p : ℤ) → IsAdmissible list f p → ⊥
  pub admissible : (q : ℤ) → r ≡ Some q → IsAdmissible list f q
  pub first : (q : ℤ) → r ≡ Some q → (p : ℤ) → IsAdmissible list f p → IsShortOf walk p q → ⊥

pub walk_stops : (walk : Side) (list : List Interval) (f needed : ℕ) (ends : List End) (r : Option ℤ)
    → IsPermutation (ends_of list) ends → AllPairs (Follows walk) ends → f < length list → needed ≡ length list - f
    → r ≡ first_reached walk needed 0 0 ends → Stops walk list f r
walk_stops walk list f needed ends r moved order below is found =
    let ordered = ordered_from_pairs (Follows walk) ends order in
    record {
      nowhere = λ none p few.
          let balanced = balance_moved walk list ends p moved in
          let short : IfSome r (λ q. IsShortOf walk p q) = rw none tt in
          let too_few = short_of_stop walk needed 0 0 p ends r ordered (sym found) short (omega arith) in
          omega arith;
      admissible = λ q at.
          let balanced = balance_moved walk list ends q moved in
          let enough = (stop_reaches walk needed 0 0 ends q ordered (sym found ∙ at)).0 in
          omega arith;
      first = λ q at p few short_of.
          let balanced = balance_moved walk list ends p moved in
          let short : IfSome r (λ q. IsShortOf walk p q) = rw at short_of in
          let too_few = short_of_stop walk needed 0 0 p ends r ordered (sym found) short (omega arith) in
          omega arith;
    }

-- ---- the two walks
pub walk_down : (list : List Interval) (f needed : ℕ) (ends turned : List End) (r : Option ℤ)
    → IsPermutation (ends_of list) ends → IsInOrder ends → turned ≡ reverse ends → f < length list
    → needed ≡ length list - f → r ≡ first_reached High needed 0 0 turned → Stops High list f r
walk_down list f needed ends turned r moved order is_turned below is found =
    walk_stops High list f needed (reverse ends) r
    (IsPermutation-trans (ends_of list) ends (reverse ends) moved (IsPermutation-reverse ends))
    (pairs_reversed MayPrecede ends order) below is (rw is_turned at found)

pub found_none : (list : List Interval) (f : ℕ) (r : Option ℤ) → f < length list → Stops Low list f r → r ≡ None
    → IsHull list f Empty
found_none list f r below up none = (below, up.nowhere none)

pub found_both : (list : List Interval) (f : ℕ) (r s : Option ℤ) (lo hi : ℤ) → f < length list → Stops Low list f r
    → Stops High list f s → r ≡ Some lo → s ≡ Some hi → IsHull list f (Bounded lo hi)
found_both list f r s lo hi below up down at_lo at_hi = (
  below,
  (up.admissible lo at_lo, λ p few. by_lt_z p lo (λ short. absurd (up.first lo at_lo p few short)) (λ le. le)),
  (down.admissible hi at_hi, λ p few. by_lt_z hi p (λ short. absurd (down.first hi at_hi p few short)) (λ le. le)),
)

pub found_one : (list : List Interval) (f : ℕ) (r s : Option ℤ) (lo : ℤ) → Stops Low list f r → Stops High list f s
    → r ≡ Some lo → s ≡ None → ⊥
found_one list f r s lo up down at_lo none = down.nowhere none lo (up.admissible lo at_lo)
