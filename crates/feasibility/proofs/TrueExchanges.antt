-- What holds of the exchanges with servers that aren't false, one by one and as a list.
use Rattle.feasibility.proofs.Common.{◌≡◌, ℕ, zero, suc, ℤ, Bool, true, false, not, List, [], ◌∷◌, map, Some, refl, ap, subst, All, filter, cond-true, cond-false, All-nil, All-cons, All-head, All-tail, All-map, Exchange, Mark, low_mark, high_mark, AreCompatible, true_exchanges, low_marks, high_marks, AreAllCompatible, by_test, not-true, All-map_back}
use Rattle.std.specs.Prelude.{slice_get}

module _ {X : Type 0} (p : X → Bool) (P : X → Type 0) where
  -- what holds of each that passes holds of the one at a place, if it passes
  pub at_passing : (xs : List X) (k : ℕ) (x : X) → All P (filter p xs) → slice_get xs k ≡ Some x → p x ≡ true → P x
  at_passing [] k x all at passes = absurd cc
  at_passing (y ∷ ys) zero x all at passes =
      let same : y ≡ x = cc in
      let first : p y ≡ true = rw same passes in
      subst P same (All-head P y (filter p ys) (rw (cond-true (p y) (y ∷ filter p ys) (filter p ys) first) at all))
  at_passing (y ∷ ys) (suc k) x all at passes = by_test (p y)
      (λ first. at_passing ys k x (All-tail P y (filter p ys)
      (rw (cond-true (p y) (y ∷ filter p ys) (filter p ys) first) at all)) at passes)
      (λ first. at_passing ys k x (rw (cond-false (p y) (y ∷ filter p ys) (filter p ys) first) at all) at passes)

  pub all_passing : (xs : List X) → ((k : ℕ) (x : X) → slice_get xs k ≡ Some x → p x ≡ true → P x) → All P (filter p xs)
  all_passing [] each = All-nil P
  all_passing (y ∷ ys) each =
      let rest = all_passing ys (λ k x at. each (suc k) x at) in
      by_test (p y)
      (λ first. rw (cond-true (p y) (y ∷ filter p ys) (filter p ys) first)
      (All-cons P y (filter p ys) (each zero y refl first) rest))
      (λ first. rw (cond-false (p y) (y ∷ filter p ys) (filter p ys) first) rest)

module _ (is_false : ℕ → Bool) (xs : List Exchange) where
  pub true_at : (P : Exchange → Type 0) (k : ℕ) (x : Exchange) → All P (true_exchanges is_false xs)
      → slice_get xs k ≡ Some x → is_false x.server ≡ false → P x
  true_at P k x all at true' = at_passing (λ x. not (is_false x.server)) P xs k x all at (ap not true')

  pub all_true : (P : Exchange → Type 0)
      → ((k : ℕ) (x : Exchange) → slice_get xs k ≡ Some x → is_false x.server ≡ false → P x)
      → All P (true_exchanges is_false xs)
  all_true P each =
      all_passing (λ x. not (is_false x.server)) P xs (λ k x at ok. each k x at (not-true (is_false x.server) ok))

  pub marks_at : (P : Mark → Type 0) (f : Exchange → Mark) (k : ℕ) (x : Exchange)
      → All P (map f (true_exchanges is_false xs)) → slice_get xs k ≡ Some x → is_false x.server ≡ false → P (f x)
  marks_at P f k x all at true' =
      true_at (λ x. P (f x)) k x (All-map_back P f (true_exchanges is_false xs) all) at true'

  pub all_marks : (P : Mark → Type 0) (f : Exchange → Mark)
      → ((k : ℕ) (x : Exchange) → slice_get xs k ≡ Some x → is_false x.server ≡ false → P (f x))
      → All P (map f (true_exchanges is_false xs))
  all_marks P f each = All-map P f (true_exchanges is_false xs) (all_true (λ x. P (f x)) each)

  -- each low mark with each high mark
  pub pair_at : (ppb : ℕ) (allowance : ℤ) (i j : ℕ) (x y : Exchange)
      → AreAllCompatible ppb (low_marks allowance is_false xs) (high_marks allowance is_false xs)
      → slice_get xs i ≡ Some x → slice_get xs j ≡ Some y → is_false x.server ≡ false → is_false y.server ≡ false
      → AreCompatible ppb (low_mark allowance x) (high_mark allowance y)
  pair_at ppb allowance i j x y all at_i at_j true_x true_y =
      marks_at (AreCompatible ppb (low_mark allowance x)) (high_mark allowance) j y
      (marks_at (λ low. All (AreCompatible ppb low) (high_marks allowance is_false xs)) (low_mark allowance) i x all
      at_i true_x) at_j true_y

  pub all_pairs : (ppb : ℕ) (allowance : ℤ)
      → ((i j : ℕ) (x y : Exchange) → slice_get xs i ≡ Some x → slice_get xs j ≡ Some y
      → is_false x.server ≡ false → is_false y.server ≡ false
      → AreCompatible ppb (low_mark allowance x) (high_mark allowance y))
      → AreAllCompatible ppb (low_marks allowance is_false xs) (high_marks allowance is_false xs)
  all_pairs ppb allowance each =
      all_marks (λ low. All (AreCompatible ppb low) (high_marks allowance is_false xs)) (low_mark allowance)
      (λ i x at_i true_x. all_marks (AreCompatible ppb (low_mark allowance x)) (high_mark allowance)
      (λ j y at_j true_y. each i j x y at_i at_j true_x true_y))
