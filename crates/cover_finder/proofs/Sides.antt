-- The ends of a side.
use Rattle.std.proofs.Common.{◌≡◌, ℕ, zero, suc, ◌+◌, ◌<◌, ℤ, pos, neg_ℤ, ◌+ℤ◌, ◌≤ℤ◌, ◌<ℤ◌, List, [], ◌∷◌, length, map, Option, Some, None, MatchOption, refl, sym, subst, ap, ◌∙◌, arith, ⊎_elim}
use Rattle.std.proofs.lemmas.Bool.{cases_lt}
use Rattle.std.proofs.lemmas.Int.{ints, by_lt_z}
use Rattle.std.proofs.lemmas.Option.{same_Some, slice_get-map}
use Rattle.std.specs.Option.{option_map}
use Rattle.std.specs.Prelude.{int_lt, slice_get}
use Rattle.lemma_base.proofs.Bool.{by_test}
use Rattle.lemma_base.proofs.Int.{int_lt-false, int_lt-true, ≤ℤ_trans}
use Rattle.lemma_base.proofs.List.{slice_get-below}
use Rattle.cover_finder.specs.Common.{Stretch}
use Rattle.cover_finder.specs.Ridge.{AreWithOne, IsHighestIfAny, IsHighestUpto, NoneIsBehind}
use Rattle.cover_finder.specs.Side.{AreInOrder, IsHighestOver, end_over, higher_of, middle_of, turned}
use Rattle.cover_finder.specs.declared.peak.End.{End}
use Rattle.cover_finder.specs.declared.peak.Numbered.{Numbered}
use Rattle.cover_finder.proofs.Moved.{early_end, late_end}

-- ---- one mark after another

abbrev pub at_zero : Numbered
at_zero = record { mark = record { place = pos 0; error = pos 0 }; number = 0 }

pub with_last : (i j : ℕ) → j ≡ i + 1 → AreWithOne 0 i i 0 j
with_last i j next = record {
  from_here = omega arith;
  to_there = omega arith;
  no_later = omega arith;
  no_sooner = omega arith;
  others = λ k low high different. (omega arith, omega arith);
}

pub with_first : (i j to : ℕ) → j ≡ i + 1 → i < to → AreWithOne j to i i to
with_first i j to next below = record {
  from_here = omega arith;
  to_there = omega arith;
  no_later = omega arith;
  no_sooner = omega arith;
  others = λ k low high different. (omega arith, omega arith);
}

at_map : {X Y : Type 0} (f : X → Y) (xs : List X) (k : ℕ) (y : Y) → slice_get (map f xs) k ≡ Some y →
    (x : X) × (slice_get xs k ≡ Some x) × (y ≡ f x)
at_map f [] k y is = absurd cc
at_map f (x ∷ xs) zero y is = (x, refl, sym (same_Some (f x) y is))
at_map f (x ∷ xs) (suc k) y is = at_map f xs k y is

pub map_at : {X Y : Type 0} (f : X → Y) (xs : List X) (k : ℕ) (x : X) → slice_get xs k ≡ Some x →
    slice_get (map f xs) k ≡ Some (f x)
map_at f xs k x is = slice_get-map f xs k ∙ ap (option_map f) is

module _ (marks : List Numbered) (order : AreInOrder marks) (k : ℕ) (one : Numbered)
    (here : slice_get marks k ≡ Some one) where
  pub none_before : NoneIsBehind marks 0 k one.mark.place
  none_before i other low high at = order i k other one (omega arith) at here

  pub none_after : (j to : ℕ) → j ≡ k + 1 → NoneIsBehind (map turned marks) j to (neg_ℤ one.mark.place)
  none_after j to next i other low high at =
      let own = at_map turned marks i other at in
      let le = order k i one own.0 (omega arith) here own.1 in
      let place = ap (λ (m : Numbered). m.mark.place) own.2 in
      omega (arith, ints, place)

-- the same of numbers that 128 bits keep
pub kept_both : (drift rate : ℕ) (marks : List Numbered) (found : Option End) {a b a' b' : ℤ} → a ≡ a' → b ≡ b'
    → IsHighestIfAny drift rate marks a b found → IsHighestIfAny drift rate marks a' b' found
kept_both drift rate marks found {a = a} {b = b} {a' = a'} {b' = b'} p q is =
    subst (λ (z : ℤ). IsHighestIfAny drift rate marks a' z found) q
    (subst (λ (z : ℤ). IsHighestIfAny drift rate marks z b found) p is)

-- ---- the higher of two ends

module _ (drift onwards back : ℕ) (marks : List Numbered) (stretch : Stretch) (some : 0 < onwards) (also : 0 < back)
    (order : stretch.begin ≤ℤ stretch.end) where
  abbrev End_of : Numbered → ℤ
  End_of one = end_over drift onwards back stretch one.mark

  abbrev Upto : Numbered → Type 0
  Upto one = one.mark.place ≤ℤ middle_of onwards back stretch

  record IsEndOf (end : End) : Type 0 where
    pub index : ℕ
    pub one : Numbered
    pub stands : slice_get marks index ≡ Some one
    pub number : end.number ≡ one.number
    pub error : end.error ≡ End_of one

  early_found : (end : End) → IsHighestUpto drift onwards marks (middle_of onwards back stretch) stretch.end end
      → IsEndOf end × ((k : ℕ) (other : Numbered) → slice_get marks k ≡ Some other → Upto other
      → End_of other ≤ℤ end.error)
  early_found end is = (
    record {
      index = is.index;
      one = is.one;
      stands = is.stands;
      number = is.number;
      error = is.error ∙ early_end drift onwards back stretch is.one.mark some also order is.upto;
    },
    λ k other at upto. subst (λ (z : ℤ). z ≤ℤ end.error)
        (early_end drift onwards back stretch other.mark some also order upto) (is.none_higher k other at upto),
  )

  -- the last place in the opposite order that comes behind the middle
  module _ (place : ℤ) (place_is : place ≡ neg_ℤ (middle_of onwards back stretch +ℤ pos 1)) where
    late_found : (end : End) → IsHighestUpto drift back (map turned marks) place (neg_ℤ stretch.begin) end
        → IsEndOf end × ((k : ℕ) (other : Numbered) → slice_get marks k ≡ Some other
        → middle_of onwards back stretch <ℤ other.mark.place → End_of other ≤ℤ end.error)
    late_found end is =
        let own = at_map turned marks is.index is.one is.stands in
        let at = ap (λ (m : Numbered). m.mark.place) own.2 in
        let upto = is.upto in
        let behind : middle_of onwards back stretch <ℤ own.0.mark.place = omega (arith, ints, at, place_is) in (
          record {
            index = is.index;
            one = own.0;
            stands = own.1;
            number = is.number ∙ ap (λ (m : Numbered). m.number) own.2;
            error = is.error
                ∙ late_end drift onwards back stretch own.0.mark some also order behind is.one.mark at
                (ap (λ (m : Numbered). m.mark.error) own.2);
          },
          λ k other there beyond. subst (λ (z : ℤ). z ≤ℤ end.error)
              (late_end drift onwards back stretch other.mark some also order beyond (turned other).mark refl refl)
              (is.none_higher k (turned other) (map_at turned marks k other there)
              (omega (arith, ints, place_is))),
        )

    upto_all : ((k : ℕ) (one : Numbered) → slice_get (map turned marks) k ≡ Some one → place <ℤ one.mark.place)
        → (k : ℕ) (other : Numbered) → slice_get marks k ≡ Some other → Upto other
    upto_all no_late k other at =
        let beyond = no_late k (turned other) (map_at turned marks k other at) in
        omega (arith, ints, place_is)

    none_at_all : ((k : ℕ) (one : Numbered) → slice_get marks k ≡ Some one
        → middle_of onwards back stretch <ℤ one.mark.place)
        → ((k : ℕ) (one : Numbered) → slice_get (map turned marks) k ≡ Some one → place <ℤ one.mark.place)
        → length marks ≡ 0
    none_at_all no_early no_late = ⊎_elim
        (λ some.
        let first = slice_get-below marks 0 some in
        let behind = no_early 0 first.0 first.1 in
        let upto = upto_all no_late 0 first.0 first.1 in
        absurd (omega (arith, ints)))
        (λ none. omega arith)
        (cases_lt 0 (length marks))

    over : (end : End) → IsEndOf end
        → ((k : ℕ) (other : Numbered) → slice_get marks k ≡ Some other → End_of other ≤ℤ end.error)
        → IsHighestOver drift onwards back marks stretch end
    over end own none_higher = record {
      index = own.index;
      one = own.one;
      stands = own.stands;
      number = own.number;
      error = own.error;
      none_higher = none_higher;
    }

    pub higher_is : (early late : Option End)
        → IsHighestIfAny drift onwards marks (middle_of onwards back stretch) stretch.end early
        → IsHighestIfAny drift back (map turned marks) place (neg_ℤ stretch.begin) late
        → MatchOption (higher_of early late) (length marks ≡ 0) (IsHighestOver drift onwards back marks stretch)
    higher_is None None no_early no_late = none_at_all no_early no_late
    higher_is None (Some b) no_early is_late =
        let found = late_found b is_late in
        over b found.0 (λ k other at. found.1 k other at (no_early k other at))
    higher_is (Some a) None is_early no_late =
        let found = early_found a is_early in
        over a found.0 (λ k other at. found.1 k other at (upto_all no_late k other at))
    higher_is (Some a) (Some b) is_early is_late =
        let early = early_found a is_early in
        let late = late_found b is_late in
        by_test (int_lt a.error b.error)
        (λ less.
        let le = int_lt-true a.error b.error less in
        rw less (over b late.0 (λ k other at. by_lt_z (middle_of onwards back stretch) other.mark.place
        (λ behind. late.1 k other at behind)
        (λ upto. ≤ℤ_trans (End_of other) a.error b.error (early.1 k other at upto) (omega (arith, ints))))))
        (λ no_less.
        let le = int_lt-false a.error b.error no_less in
        rw no_less (over a early.0 (λ k other at. by_lt_z (middle_of onwards back stretch) other.mark.place
        (λ behind. ≤ℤ_trans (End_of other) b.error a.error (late.1 k other at behind) le)
        (λ upto. early.1 k other at upto))))
