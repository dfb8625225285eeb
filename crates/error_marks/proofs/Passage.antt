-- Passing low marks, and what that says of a high mark.
use Rattle.error_marks.proofs.Common.{ℕ, ◌+◌, ◌<◌, ◌≤◌, ◌≡◌, ℤ, ◌≤ℤ◌, ⊎_elim, List, length, get_or, subst, arith, All, AllWithin, HoldsAt, ints, by_lt_z, get_or_default, cases_lt, Precedes, IsBelow, KeepsBelow, IsInOrder, line_along, IsHighest, HasPassed, Mark, ≤ℤ_trans, ≤ℤ_refl, lt_next_cases}
use Rattle.error_marks.specs.declared.direction.Direction.{Direction}
use Rattle.error_marks.specs.declared.sweep.Passage.{Passage}

-- what holds of an element holds of it under any default
pub at_any : (P : Mark → Type 0) (xs : List Mark) (k : ℕ) (e : Mark) → k < length xs → P (get_or xs k e) →
    HoldsAt P xs k
at_any P xs k e within h d = subst P (get_or_default xs k e d within) h

both_at_any : (R : Mark → Mark → Type 0) (xs : List Mark) (i j : ℕ) (e d : Mark) → i < length xs → j < length xs →
    R (get_or xs i e) (get_or xs j e) → R (get_or xs i d) (get_or xs j d)
both_at_any R xs i j e d p q h =
    at_any (λ m. R (get_or xs i d) m) xs j e q (at_any (λ m. R m (get_or xs j e)) xs i e p h d) d

above : (a b : ℤ) → (a ≤ℤ b → ⊥) → b ≤ℤ a
above a b no_more = by_lt_z b a (λ lt. omega (arith, ints)) (λ le. absurd (no_more le))

module _ (direction : Direction) (ppb : ℕ) (lows : List Mark) (passed highest : ℕ)
    (is : IsHighest direction ppb lows record { passed = passed; highest = highest }) (e : Mark)
    (within : passed < length lows) where
  within_too : highest < length lows
  within_too = let le = is.at_first in omega arith

  -- the next mark's line is as high
  pub next_is_highest : IsBelow direction ppb (get_or lows highest e) (get_or lows passed e) →
      IsHighest direction ppb lows record { passed = passed + 1; highest = passed }
  next_is_highest below = record {
    at_first = omega arith;
    passed = λ some. omega arith;
    others = λ k d h. ⊎_elim
        (λ (before : k < passed). ≤ℤ_trans _ (line_along direction ppb (get_or lows highest d)) _
        (is.others k d before)
        (both_at_any (IsBelow direction ppb) lows highest passed e d within_too within below))
        (λ (same : k ≡ passed). rw same (≤ℤ_refl _)) (lt_next_cases k passed h);
  }

  -- it lies lower
  pub highest_stays : (IsBelow direction ppb (get_or lows highest e) (get_or lows passed e) → ⊥) →
      IsHighest direction ppb lows record { passed = passed + 1; highest = highest }
  highest_stays not_below =
      let first = is.at_first in
      record {
        at_first = omega arith;
        passed = λ some. omega arith;
        others = λ k d h.
            let lower = both_at_any (IsBelow direction ppb) lows passed highest e d within within_too
            (above _ _ not_below) in
            grind (arith, ints, is.others k d);
      }

-- no low mark's line lies above a high mark's if the highest of those passed doesn't
module _ (direction : Direction) (ppb : ℕ) (lows : List Mark) (high : Mark) (p : Passage)
    (has : HasPassed direction ppb lows high p) (order : IsInOrder lows) where
  pub all_kept : (0 < p.passed → HoldsAt (λ low. IsBelow direction ppb low high) lows p.highest) →
      All (λ low. KeepsBelow direction ppb low high) lows
  all_kept below k d within precedes = ⊎_elim
      (λ (before : k < p.passed). ≤ℤ_trans _ (line_along direction ppb (get_or lows p.highest d)) _
      (has.highest.others k d before) (below (omega arith) d))
      (λ (after : p.passed ≤ k). absurd (has.next (omega arith) d
      (≤ℤ_trans _ (get_or lows k d).place _ (order p.passed k d after within) precedes)))
      (cases_lt k p.passed)

-- what precedes a high mark precedes the later ones
pub precede_later : (direction : Direction) (ppb : ℕ) (lows highs : List Mark) (j : ℕ) (e : Mark) (p : Passage) →
    HasPassed direction ppb lows (get_or highs j e) p → IsInOrder highs →
    (k : ℕ) (d : Mark) → j ≤ k → k < length highs →
    AllWithin (λ low. Precedes low (get_or highs k d)) lows 0 p.passed
precede_later direction ppb lows highs j e p has order k d le within i d' from before =
    ≤ℤ_trans (get_or lows i d').place (get_or highs j e).place
    (get_or highs k d).place (has.precede i d' from before)
    (at_any (λ m. Precedes m (get_or highs k d)) highs j d (omega arith) (order j k d le within) e)
