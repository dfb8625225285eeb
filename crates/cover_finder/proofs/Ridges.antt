-- The peaks of marks.
use Rattle.std.proofs.Common.{◌≡◌, ℕ, ◌+◌, ◌-◌, ◌<◌, ◌≤◌, ℤ, ◌≤ℤ◌, ◌<ℤ◌, true, false, List, [], ◌∷◌, ◌++◌, length, get_or, Some, sym, subst, ap, ◌∙◌, arith, ⊎_elim}
use Rattle.std.proofs.lemmas.Bool.{cases_eq, cases_lt}
use Rattle.std.proofs.lemmas.Int.{ints, by_lt_z}
use Rattle.std.proofs.lemmas.Option.{get_or_from_slice_get, same_Some, slice_get_within, slice_get-get_or}
use Rattle.std.specs.List.Sorted.{IsPartitionedBy, IsPartitionPoint}
use Rattle.std.specs.Prelude.{int_le, IsTrue, slice_get}
use lib.Signed.{lt_z}
use Rattle.lemma_base.proofs.Int.{int_le-true, le-int_le, ≤ℤ_trans}
use Rattle.lemma_base.proofs.List.{slice_get-below}
use Rattle.cover_finder.proofs.List.{each_pushed, rises_pushed, slice_get-front, slice_get-last}
use Rattle.cover_finder.proofs.Moved.{level_grows}
use Rattle.cover_finder.specs.Ridge.{ArePeaksOf, AreWithOne, IsCountUpto, IsHighestUpto, IsPeakOf, IsTopped, NoneIsBehind, PeaksRise, height_of, level_at}
use Rattle.cover_finder.specs.declared.peak.End.{End}
use Rattle.cover_finder.specs.declared.peak.Numbered.{Numbered}
use Rattle.cover_finder.specs.declared.peak.Peak.{Peak}

-- ---- how many come up to a place

pub parted : (peaks : List Peak) (place : ℤ) → PeaksRise peaks → IsPartitionedBy (λ peak. int_le peak.place place) peaks
parted peaks place rise i j d le below upto =
    let a = get_or peaks i d in
    let b = get_or peaks j d in
    let order = rise i j a b le (slice_get-get_or peaks i d (omega arith)) (slice_get-get_or peaks j d below) in
    le-int_le a.place place (≤ℤ_trans a.place b.place place order.0 (int_le-true b.place place upto))

not_upto : (a b : ℤ) → int_le a b ≡ false → b <ℤ a
not_upto a b h = grind (arith, ints)

pub not_lower : (a b : ℤ) → ¬ IsTrue (lt_z a b) → b ≤ℤ a
not_lower a b h = grind (arith, ints)

pub count_upto_is : (peaks : List Peak) (place : ℤ) (count : ℕ)
    → IsPartitionPoint (λ peak. int_le peak.place place ≡ true) (λ peak. int_le peak.place place ≡ false) peaks count
    → IsCountUpto peaks place count
count_upto_is peaks place count point = record {
  upto = λ i peak below at.
      let within = slice_get_within peaks i peak at in
      int_le-true peak.place place
      (subst (λ (p : Peak). int_le p.place place ≡ true) (get_or_from_slice_get peaks i peak peak at)
      (point.0 i peak (omega arith) below));
  beyond = λ i peak le at.
      let within = slice_get_within peaks i peak at in
      not_upto peak.place place
      (subst (λ (p : Peak). int_le p.place place ≡ false) (get_or_from_slice_get peaks i peak peak at)
      (point.1 i peak le within));
}

-- ---- one mark more

module _ (drift rate : ℕ) (marks : List Numbered) (from to k from' to' : ℕ) (peaks : List Peak)
    (are : ArePeaksOf drift rate marks from to peaks) (one : Numbered) (here : slice_get marks k ≡ Some one)
    (with_one : AreWithOne from to k from' to') (none_behind : NoneIsBehind marks from to one.mark.place) where
  kept : (peak : Peak) → IsPeakOf drift rate marks from to peak → IsPeakOf drift rate marks from' to' peak
  kept peak of = record {
    index = of.index;
    one = of.one;
    from_here = omega (arith, with_one.no_later, of.from_here);
    to_there = omega (arith, with_one.no_sooner, of.to_there);
    stands = of.stands;
    place = of.place;
    height = of.height;
    number = of.number;
  }

  -- each of the marks is topped if the new one is
  all_topped : (peaks' : List Peak)
      → ((index : ℕ) (other : Numbered) → from ≤ index → index < to → slice_get marks index ≡ Some other
      → IsTopped peaks' other.mark.place (height_of drift rate other.mark))
      → IsTopped peaks' one.mark.place (height_of drift rate one.mark)
      → (index : ℕ) (other : Numbered) → from' ≤ index → index < to' → slice_get marks index ≡ Some other
      → IsTopped peaks' other.mark.place (height_of drift rate other.mark)
  all_topped peaks' old new index other from_here to_there at = ⊎_elim
      (λ same. subst (λ (m : Numbered). IsTopped peaks' m.mark.place (height_of drift rate m.mark))
      (same_Some one other (sym here ∙ ap (slice_get marks) (sym same) ∙ at)) new)
      (λ different.
      let inside = with_one.others index from_here to_there different in
      old index other inside.0 inside.1 at)
      (cases_eq index k)

  -- a peak comes no later
  before : (i : ℕ) (peak : Peak) → slice_get peaks i ≡ Some peak → peak.place ≤ℤ one.mark.place
  before i peak at =
      let of = are.each i peak at in
      subst (λ (z : ℤ). z ≤ℤ one.mark.place) (sym of.place)
      (none_behind of.index of.one of.from_here of.to_there of.stands)

  -- a mark that isn't higher than the last peak
  pub peaks_kept : (n : ℕ) (last : Peak) → slice_get peaks n ≡ Some last
      → height_of drift rate one.mark ≤ℤ last.height → ArePeaksOf drift rate marks from' to' peaks
  peaks_kept n last at no_higher = record {
    each = λ i peak is. kept peak (are.each i peak is);
    all = all_topped peaks are.all (record {
      index = n;
      peak = last;
      stands = at;
      no_later = before n last at;
      no_lower = no_higher;
    });
    rise = are.rise;
  }

  -- one that is
  module _ (peak : Peak) (place : peak.place ≡ one.mark.place) (height : peak.height ≡ height_of drift rate one.mark)
      (number : peak.number ≡ one.number)
      (above : (last : Peak) → slice_get peaks (length peaks - 1) ≡ Some last → last.height <ℤ peak.height)
    where
      still_topped : (p h : ℤ) → IsTopped peaks p h → IsTopped (peaks ++ peak ∷ []) p h
      still_topped p h top = record {
        index = top.index;
        peak = top.peak;
        stands = slice_get-front peaks peak top.index (slice_get_within peaks top.index top.peak top.stands)
            ∙ top.stands;
        no_later = top.no_later;
        no_lower = top.no_lower;
      }

      under : (i : ℕ) (a : Peak) → slice_get peaks i ≡ Some a → (a.place ≤ℤ peak.place) × (a.height ≤ℤ peak.height)
      under i a at =
          let within = slice_get_within peaks i a at in
          let last = slice_get-below peaks (length peaks - 1) (omega arith) in
          let lower = (are.rise i (length peaks - 1) a last.0 (omega arith) at last.1).1 in
          let less = above last.0 last.1 in
          (subst (λ (z : ℤ). a.place ≤ℤ z) (sym place) (before i a at), omega (arith, ints))

      pub peaks_more : ArePeaksOf drift rate marks from' to' (peaks ++ peak ∷ [])
      peaks_more = record {
        each = each_pushed (λ i. IsPeakOf drift rate marks from' to') peaks peak
            (λ i p at. kept p (are.each i p at))
            (record {
              index = k;
              one = one;
              from_here = with_one.from_here;
              to_there = with_one.to_there;
              stands = here;
              place = place;
              height = height;
              number = number;
            });
        all = all_topped (peaks ++ peak ∷ [])
            (λ index other low high at.
            still_topped other.mark.place (height_of drift rate other.mark) (are.all index other low high at))
            (record {
              index = length peaks;
              peak = peak;
              stands = slice_get-last peaks peak;
              no_later = omega (arith, ints, place);
              no_lower = omega (arith, ints, height);
            });
        rise = rises_pushed (λ a b. (a.place ≤ℤ b.place) × (a.height ≤ℤ b.height)) peaks peak are.rise under
            (omega (arith, ints), omega (arith, ints));
      }

-- ---- asked up to a place

module _ (drift rate : ℕ) (marks : List Numbered) (peaks : List Peak)
    (are : ArePeaksOf drift rate marks 0 (length marks) peaks) (place : ℤ) (count : ℕ)
    (is : IsCountUpto peaks place count) where
  -- a peak that comes up to it is one of the first
  in_front : (i : ℕ) (peak : Peak) → slice_get peaks i ≡ Some peak → peak.place ≤ℤ place → i < count
  in_front i peak at upto = ⊎_elim
      (λ less. less)
      (λ past. absurd (omega (arith, ints, is.beyond i peak past at)))
      (cases_lt i count)

  pub none_upto : count ≡ 0 → (k : ℕ) (one : Numbered) → slice_get marks k ≡ Some one → place <ℤ one.mark.place
  none_upto none k one at =
      let top = are.all k one (omega arith) (slice_get_within marks k one at) at in
      by_lt_z place one.mark.place
      (λ behind. behind)
      (λ upto.
      let early = ≤ℤ_trans top.peak.place one.mark.place place top.no_later upto in
      absurd (omega (arith, in_front top.index top.peak top.stands early)))

  module _ (far : ℤ) (some : 0 < rate) (n : ℕ) (last : Peak) (next : count ≡ n + 1)
      (at_last : slice_get peaks n ≡ Some last) where
    pub highest_upto : (end : End) → end.number ≡ last.number → end.error ≡ level_at drift rate far last.height
        → IsHighestUpto drift rate marks place far end
    highest_upto end number error =
        let own = are.each n last at_last in
        record {
          index = own.index;
          one = own.one;
          stands = own.stands;
          upto = subst (λ (z : ℤ). z ≤ℤ place) own.place (is.upto n last (omega arith) at_last);
          number = number ∙ own.number;
          error = error ∙ ap (level_at drift rate far) own.height;
          none_higher = λ k other at upto.
              let top = are.all k other (omega arith) (slice_get_within marks k other at) at in
              let early = ≤ℤ_trans top.peak.place other.mark.place place top.no_later upto in
              let inside = in_front top.index top.peak top.stands early in
              let order = (are.rise top.index n top.peak last (omega arith) top.stands at_last).1 in
              let grown = level_grows drift rate far (height_of drift rate other.mark) last.height some
              (≤ℤ_trans (height_of drift rate other.mark) top.peak.height last.height top.no_lower order) in
              subst (λ (z : ℤ). level_at drift rate far (height_of drift rate other.mark) ≤ℤ z) (sym error) grown;
        }
