-- Reads of a list that has one element more.
use Rattle.std.proofs.Common.{◌≡◌, ℕ, zero, suc, ◌<◌, ◌≤◌, List, [], ◌∷◌, ◌++◌, length, Some, refl, arith, ◌⊎◌, inl, inr, subst}
use Rattle.std.proofs.lemmas.Option.{same_Some, slice_get_within}
use Rattle.std.specs.Prelude.{slice_get}

pub slice_get-front : {X : Type 0} (xs : List X) (x : X) (k : ℕ) → k < length xs →
    slice_get (xs ++ x ∷ []) k ≡ slice_get xs k
slice_get-front [] x k h = absurd (omega arith)
slice_get-front (y ∷ xs) x zero h = refl
slice_get-front (y ∷ xs) x (suc k) h = slice_get-front xs x k (omega arith)

pub slice_get-last : {X : Type 0} (xs : List X) (x : X) → slice_get (xs ++ x ∷ []) (length xs) ≡ Some x
slice_get-last [] x = refl
slice_get-last (y ∷ xs) x = slice_get-last xs x

-- what holds of each element, and of the new one, holds of each of a list that has one more
pub each_pushed : {X : Type 0} (P : ℕ → X → Type 0) (xs : List X) (x : X) →
    ((k : ℕ) (y : X) → slice_get xs k ≡ Some y → P k y) → P (length xs) x →
    (k : ℕ) (y : X) → slice_get (xs ++ x ∷ []) k ≡ Some y → P k y
each_pushed P [] x old new zero y is = subst (P zero) (same_Some x y is) new
each_pushed P [] x old new (suc k) y is = absurd cc
each_pushed P (z ∷ xs) x old new zero y is = old zero y is
each_pushed P (z ∷ xs) x old new (suc k) y is =
    each_pushed (λ j. P (suc j)) xs x (λ j. old (suc j)) new k y is

-- an element of a list with one more is an old one, or the new one
pub pushed_at : {X : Type 0} (xs : List X) (x : X) (k : ℕ) (y : X) → slice_get (xs ++ x ∷ []) k ≡ Some y →
    ((k < length xs) × (slice_get xs k ≡ Some y)) ⊎ ((k ≡ length xs) × (x ≡ y))
pushed_at xs x k y = each_pushed (λ k y. ((k < length xs) × (slice_get xs k ≡ Some y)) ⊎ ((k ≡ length xs) × (x ≡ y)))
    xs x (λ k y is. inl (slice_get_within xs k y is, is)) (inr (refl, refl)) k y

-- what holds of each element and each behind it
pub rises_pushed : {X : Type 0} (R : X → X → Type 0) (xs : List X) (x : X) →
    ((i j : ℕ) (a b : X) → i ≤ j → slice_get xs i ≡ Some a → slice_get xs j ≡ Some b → R a b) →
    ((i : ℕ) (a : X) → slice_get xs i ≡ Some a → R a x) → R x x → (i j : ℕ) (a b : X) → i ≤ j →
    slice_get (xs ++ x ∷ []) i ≡ Some a → slice_get (xs ++ x ∷ []) j ≡ Some b → R a b
rises_pushed R xs x rise under same i j a b le at_a at_b =
    grind (arith, pushed_at xs x i a at_a, pushed_at xs x j b at_b)
