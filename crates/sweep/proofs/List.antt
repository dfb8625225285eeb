-- Reads of a list that has one element more.
use Rattle.sweep.proofs.Common.{◌≡◌, ℕ, zero, suc, ◌+◌, ◌<◌, ◌≤◌, List, [], ◌∷◌, ◌++◌, length, Some, refl, arith, sym, ap, ◌⊎◌, inl, inr, ◌∙◌, map, reverse, ◌-◌, subst, option_map, get_or-reverse, length-reverse, same_Some, slice_get-get_or, slice_get_within, slice_get-map, get_or_from_slice_get, slice_get, length-append, AreOver, UnsignedStretch}

pub slice_get-front : {X : Type 0} (xs : List X) (x : X) (k : ℕ) → k < length xs →
    slice_get (xs ++ x ∷ []) k ≡ slice_get xs k
slice_get-front [] x k h = absurd (omega arith)
slice_get-front (y ∷ xs) x zero h = refl
slice_get-front (y ∷ xs) x (suc k) h = slice_get-front xs x k (omega arith)

pub slice_get-last : {X : Type 0} (xs : List X) (x : X) → slice_get (xs ++ x ∷ []) (length xs) ≡ Some x
slice_get-last [] x = refl
slice_get-last (y ∷ xs) x = slice_get-last xs x

-- what holds of each element, and of the new one, holds of each of a list that has one more
pub each_pushed : {X : Type 0} (P : ℕ → X → Type 0) (xs : List X) (x : X) →
    ((k : ℕ) (y : X) → slice_get xs k ≡ Some y → P k y) → P (length xs) x →
    (k : ℕ) (y : X) → slice_get (xs ++ x ∷ []) k ≡ Some y → P k y
each_pushed P [] x old new zero y is = subst (P zero) (same_Some x y is) new
each_pushed P [] x old new (suc k) y is = absurd cc
each_pushed P (z ∷ xs) x old new zero y is = old zero y is
each_pushed P (z ∷ xs) x old new (suc k) y is =
    each_pushed (λ j. P (suc j)) xs x (λ j. old (suc j)) new k y is

-- an element of a list with one more is an old one, or the new one
pub pushed_at : {X : Type 0} (xs : List X) (x : X) (k : ℕ) (y : X) → slice_get (xs ++ x ∷ []) k ≡ Some y →
    ((k < length xs) × (slice_get xs k ≡ Some y)) ⊎ ((k ≡ length xs) × (x ≡ y))
pushed_at xs x k y = each_pushed (λ k y. ((k < length xs) × (slice_get xs k ≡ Some y)) ⊎ ((k ≡ length xs) × (x ≡ y)))
    xs x (λ k y is. inl (slice_get_within xs k y is, is)) (inr (refl, refl)) k y

-- what holds of each element below n, and of the one at n, holds of each below n + 1
pub below_next : {X : Type 0} (P : ℕ → X → Type 0) (xs : List X) (n : ℕ) (x : X) → slice_get xs n ≡ Some x →
    ((k : ℕ) (y : X) → k < n → slice_get xs k ≡ Some y → P k y) → P n x →
    (k : ℕ) (y : X) → k < n + 1 → slice_get xs k ≡ Some y → P k y
below_next P xs n x here old new k y less is = grind arith

-- what holds of each element and each behind it
pub rises_pushed : {X : Type 0} (R : X → X → Type 0) (xs : List X) (x : X) →
    ((i j : ℕ) (a b : X) → i ≤ j → slice_get xs i ≡ Some a → slice_get xs j ≡ Some b → R a b) →
    ((i : ℕ) (a : X) → slice_get xs i ≡ Some a → R a x) → R x x → (i j : ℕ) (a b : X) → i ≤ j →
    slice_get (xs ++ x ∷ []) i ≡ Some a → slice_get (xs ++ x ∷ []) j ≡ Some b → R a b
rises_pushed R xs x rise under same i j a b le at_a at_b =
    grind (arith, pushed_at xs x i a at_a, pushed_at xs x j b at_b)

-- an element of a list whose elements were replaced, or that runs backwards
pub map_at : {X Y : Type 0} (f : X → Y) (xs : List X) (k : ℕ) (x : X) → slice_get xs k ≡ Some x →
    slice_get (map f xs) k ≡ Some (f x)
map_at f xs k x is = slice_get-map f xs k ∙ ap (option_map f) is

pub at_map : {X Y : Type 0} (f : X → Y) (xs : List X) (k : ℕ) (y : Y) → slice_get (map f xs) k ≡ Some y →
    (x : X) × (slice_get xs k ≡ Some x) × (y ≡ f x)
at_map f [] k y is = absurd cc
at_map f (x ∷ xs) zero y is = (x, refl, sym (same_Some (f x) y is))
at_map f (x ∷ xs) (suc k) y is = at_map f xs k y is

pub at_reverse : {X : Type 0} (xs : List X) (k : ℕ) (x : X) → slice_get (reverse xs) k ≡ Some x →
    (k < length xs) × (slice_get xs (length xs - 1 - k) ≡ Some x)
at_reverse xs k x is =
    let inside = slice_get_within (reverse xs) k x is in
    let within : k < length xs = omega (arith, length-reverse xs) in
    grind (
      arith,
      slice_get-get_or xs (length xs - 1 - k) x (omega arith),
      get_or-reverse xs k x within,
      get_or_from_slice_get (reverse xs) k x x is,
    )

pub reverse_at : {X : Type 0} (xs : List X) (k : ℕ) (x : X) → slice_get xs k ≡ Some x →
    slice_get (reverse xs) (length xs - 1 - k) ≡ Some x
reverse_at xs k x is =
    let within = slice_get_within xs k x is in
    let back : length xs - 1 - (length xs - 1 - k) ≡ k = omega arith in
    grind (
      arith,
      slice_get-get_or (reverse xs) (length xs - 1 - k) x (omega (arith, length-reverse xs)),
      get_or-reverse xs (length xs - 1 - k) x (omega arith),
      get_or_from_slice_get xs k x x is,
      back,
    )

-- one stretch more
pub AreOver-more : {X : Type 0} (holds : UnsignedStretch → X → Type 0) (stretches : List UnsignedStretch) (n : ℕ)
    (found : List X) → AreOver holds stretches n found → (stretch : UnsignedStretch) →
    slice_get stretches n ≡ Some stretch → (one : X) → holds stretch one →
    AreOver holds stretches (n + 1) (found ++ one ∷ [])
AreOver-more holds stretches n found so_far stretch here one is = record {
  as_many = omega (arith, length-append found (one ∷ []), so_far.as_many);
  each = λ k s x at there. grind (arith, pushed_at found one k x there, so_far.as_many);
}
