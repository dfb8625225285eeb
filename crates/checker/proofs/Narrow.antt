-- Narrower intervals of the same servers, and more of them, leave no more points admissible.
use Rattle.checker.proofs.Common.{◌≡◌, ℕ, ◌≤◌, ℤ, Bool, true, ◌&&◌, ◌⊎◌, List, [], length, None, Ok, count_by, refl, sym, ap, ◌∙◌, subst, arith, All, slice_index, ◌==◌, Any, ints, and_parts, and_from, Any-from_list_any, sum_by-le-sum_by, All-get_or, any_passes_from_place, slice_get_read, leaves_out, Interval, Empty, Sample, IsContradiction, IsNarrower, AreNarrower, IsOfSamples, group_interval, group_intervals, piece_hull, parts_after, hull_fault, Part, Stretch, nat_tests, rules}
use Rattle.checker.proofs.Counting.{implies_le}
use Rattle.checker.proofs.EntryStatement.{all_said}
use Rattle.checker.proofs.Comparison.{FaultIs, EveryHull, hull_follows}
use Rattle.checker.proofs.VerdictPieces.{empty_hull}
use Rattle.checker.proofs.Separation.{IsOfEither, passes, group_passes, counted, meet_leaves_it_out, all_counted}

module _ (p : Interval → Bool) (either : IsOfEither p)
    (narrower : (part next : Part) → IsNarrower part next → p part.interval ≡ true → p next.interval ≡ true)
    (groups : List ℕ) (parts next : List Part) (each : AreNarrower parts next) where
  -- if a group's interval passes, so does its narrower one
  group_still_passes : (g : ℕ) → passes p (group_interval groups parts g) ≡ true
      → passes p (group_interval groups next g) ≡ true
  group_still_passes g holds =
      let in_group : Part → Bool = λ part. (slice_index groups part.server == g) && p part.interval in
      let found = Any-from_list_any in_group parts (sym (group_passes p either groups parts g) ∙ holds) in
      let part = found.1 in
      let tests = and_parts (slice_index groups part.server == g) (p part.interval) found.4 in
      let other : Any (IsNarrower part) next =
      subst (λ (x : Part). Any (IsNarrower x) next) found.3
      (All-get_or (λ x. Any (IsNarrower x) next) parts found.0 part found.2 each) in
      let y = other.1 in
      let at = slice_get_read next (length next) other.0 y refl other.2 (sym other.3) in
      let same : (slice_index groups y.server == g) ≡ true =
      ap (λ (s : ℕ). slice_index groups s == g) (sym other.4.server) ∙ tests.0 in
      group_passes p either groups next g
      ∙ any_passes_from_place in_group next other.0 y at
      (and_from (slice_index groups y.server == g) (p y.interval) same (narrower part y other.4 tests.1))

  -- so no fewer groups pass
  pub no_fewer_groups : count_by p (group_intervals groups parts) ≤ count_by p (group_intervals groups next)
  no_fewer_groups = search (rules, counted, sum_by-le-sum_by, passes, implies_le, group_still_passes)

pub still_left_out : (point : ℤ) (part next : Part) → IsNarrower part next → leaves_out part.interval point ≡ true
    → leaves_out next.interval point ≡ true
still_left_out point part next is out = let a = is.low in let b = is.high in grind (arith, ints)

pub narrower_hull : (hulls : EveryHull) (groups : List ℕ) (f : ℕ) (bound : ℤ) (parts next : List Part)
    → AreNarrower parts next → hull_fault bound (piece_hull groups f parts) ≡ None
    → FaultIs IsContradiction (hull_fault bound (piece_hull groups f next))
narrower_hull hulls groups f bound parts next each e =
    let list = group_intervals groups parts in
    let other = group_intervals groups next in
    let longer = no_fewer_groups (λ i. true) (λ a b. refl) (λ part next is h. refl) groups parts next each in
    hull_follows hulls bound bound list other f f (omega (arith, ints))
    (λ point few.
    let counts = no_fewer_groups (λ i. leaves_out i point) (meet_leaves_it_out point) (still_left_out point) groups
    parts next each in
    omega arith)
    (λ some. omega (arith, longer, all_counted list, all_counted other))
    e

-- the same, and then the hull is empty or lies in the bound
pub empty_or_inside : (hulls : EveryHull) (groups : List ℕ) (f : ℕ) (bound : ℤ) (parts next : List Part)
    → AreNarrower parts next → hull_fault bound (piece_hull groups f parts) ≡ None
    → (hull_fault bound (piece_hull groups f next) ≡ None) ⊎ (piece_hull groups f next ≡ Empty)
empty_or_inside hulls groups f bound parts next each e = grind (arith, ints, nat_tests, empty_hull, narrower_hull)

pub of_samples : (samples : List Sample) (stretch : Stretch) (ppb : ℕ) (entries : List (ℕ × ℕ)) (parts : List Part)
    → parts_after samples stretch ppb [] entries ≡ Ok parts → All (IsOfSamples samples stretch ppb) parts
of_samples samples stretch ppb entries parts e =
    all_said samples stretch ppb (IsOfSamples samples stretch ppb) entries parts
    (λ entry part said. record {
      low_number = entry.0;
      high_number = entry.1;
      low = said.low;
      high = said.high;
      low_is = said.low_is;
      high_is = said.high_is;
      one_server = said.one_server;
      is = said.is;
    })
    e
