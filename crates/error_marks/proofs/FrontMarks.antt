-- The low marks in front that are compatible with each high mark.
use Rattle.error_marks.proofs.Common.{◌≡◌, ℕ, ◌+◌, ◌-◌, ◌<◌, ◌≤◌, List, length, take, drop, get_or, IsPermutation, ap, ◌∙◌, subst, arith, AllWithin, get_or-drop, get_or-take, length-drop, length-take-le, AllWithin-more, All-permutation, IsPermutation-sym, AllCompatible, FitsAll, AreInFront, AreCompatible, Mark}
use Rattle.error_marks.proofs.Passage.{at_any}

within_both : (X : Type 0) (P : X → Type 0) (xs : List X) (low middle high : ℕ) → AllWithin P xs low middle
    → AllWithin P xs middle high → AllWithin P xs low high
within_both X P xs low middle high front rest k d from lt = grind (arith, front k d, rest k d)

-- what the sweeps say of a copy of a part of the low marks, in another order
module _ (ppb : ℕ) (lows highs part sorted : List Mark) (least middle : ℕ) (forward : least ≤ middle)
    (le : middle ≤ length lows) (is : part ≡ take (middle - least) (drop least lows))
    (p : IsPermutation part sorted) where
  part_length : length part ≡ middle - least
  part_length = grind (arith, length, drop, length-drop, length-take-le)

  part_reads : (k : ℕ) (d : Mark) → k < middle - least → get_or part k d ≡ get_or lows (least + k) d
  part_reads k d lt = rw is (get_or-take (middle - least) (drop least lows) k d lt) ∙ get_or-drop least lows k d

  part_fits : AllCompatible ppb part highs → AllWithin (FitsAll ppb highs) lows least middle
  part_fits all k d from lt =
      let long = part_length in
      let at : least + (k - least) ≡ k = omega arith in
      subst (FitsAll ppb highs) (part_reads (k - least) d (omega arith) ∙ ap (λ (n : ℕ). get_or lows n d) at)
      (all (k - least) d (omega arith))

  pub more_fit : AllWithin (FitsAll ppb highs) lows 0 least → AllCompatible ppb sorted highs
      → AllWithin (FitsAll ppb highs) lows 0 middle
  more_fit front all = within_both Mark (FitsAll ppb highs) lows 0 least middle front
      (part_fits (All-permutation (FitsAll ppb highs) sorted part (IsPermutation-sym part sorted p) all))

  all_of_part : AllWithin (FitsAll ppb highs) lows 0 middle → AllCompatible ppb part highs
  all_of_part fit k d lt = grind (arith, part_length, part_reads)

  pub part_compatible : AllWithin (FitsAll ppb highs) lows 0 middle → AllCompatible ppb sorted highs
  part_compatible fit = All-permutation (FitsAll ppb highs) part sorted p (all_of_part fit)

-- the same with the high marks in another order
pub in_front_in_any_order : (ppb : ℕ) (lows highs sorted : List Mark) (n : ℕ) → IsPermutation highs sorted
    → AreInFront ppb lows sorted n → AreInFront ppb lows highs n
in_front_in_any_order ppb lows highs sorted n p front = record {
  within = front.within;
  fit = λ k d from lt. All-permutation (AreCompatible ppb (get_or lows k d)) sorted highs
      (IsPermutation-sym highs sorted p) (front.fit k d from lt);
  next = λ lt d fits. front.next lt d (All-permutation (AreCompatible ppb (get_or lows n d)) highs sorted p fits);
}

-- where nothing is left to halve
pub in_front : (ppb : ℕ) (lows highs : List Mark) (least most : ℕ) → least ≤ most → most ≤ least →
    most ≤ length lows → AllWithin (FitsAll ppb highs) lows 0 least →
    (most < length lows → ¬ (AllWithin (FitsAll ppb highs) lows 0 (most + 1))) → AreInFront ppb lows highs least
in_front ppb lows highs least most up down within fit no_more =
    let same : least ≡ most = omega arith in
    record {
      within = omega arith;
      fit = fit;
      next = λ lt d fits. no_more (omega arith)
          (subst (λ (n : ℕ). AllWithin (FitsAll ppb highs) lows 0 (n + 1)) same
          (AllWithin-more (FitsAll ppb highs) lows 0 least fit (at_any (FitsAll ppb highs) lows least d lt fits)));
    }
