-- Lists.
use Rattle.std.proofs.Common.{◌≡◌, ℕ, zero, suc, ◌+◌, ◌<◌, List, [], ◌∷◌, ◌++◌, length, map, Option, Some, None, subst, refl, ap, add-one, arith}
use Rattle.std.proofs.lemmas.List.Elements.{All-nil, All-cons, All-head, All-tail}
use Rattle.std.proofs.lemmas.Option.{get_or_from_slice_get, slice_get_within}
use Rattle.std.specs.List.{cons_option, range_with_len}
use Rattle.std.specs.Prelude.{All, slice_get}

-- what holds of all holds of the one at a place
pub All-slice_get : {X : Type 0} (P : X → Type 0) (xs : List X) (k : ℕ) (x : X) → All P xs → slice_get xs k ≡ Some x
    → P x
All-slice_get P xs k x all is =
    subst P (get_or_from_slice_get xs k x x is) (all k x (slice_get_within xs k x is))

pub All-map_back : {X Y : Type 0} (P : Y → Type 0) (f : X → Y) (xs : List X) → All P (map f xs)
    → All (λ x. P (f x)) xs
All-map_back P f [] all = All-nil (λ x. P (f x))
All-map_back P f (x ∷ xs) all =
    All-cons (λ x. P (f x)) x xs (All-head P (f x) (map f xs) all)
    (All-map_back P f xs (All-tail P (f x) (map f xs) all))

pub All-cons_option : {X : Type 0} (P : X → Type 0) (o : Option X) (xs : List X) → ((x : X) → o ≡ Some x → P x)
    → All P xs → All P (cons_option o xs)
All-cons_option P None xs each rest = rest
All-cons_option P (Some x) xs each rest = All-cons P x xs (each x refl) rest

-- a list has an element at each index below its length
pub slice_get-below : {X : Type 0} (xs : List X) (i : ℕ) → i < length xs → (x : X) × (slice_get xs i ≡ Some x)
slice_get-below [] i below = absurd (omega arith)
slice_get-below (x ∷ xs) zero below = (x, refl)
slice_get-below (x ∷ xs) (suc i) below = slice_get-below xs i (omega arith)

pub range_with_len_more : (a n j : ℕ) → a + n ≡ j → range_with_len a (n + 1) ≡ range_with_len a n ++ j ∷ []
range_with_len_more a n j e = rw add-one (pushed a n j e)
  where
    pushed : (a n j : ℕ) → a + n ≡ j → range_with_len a (suc n) ≡ range_with_len a n ++ j ∷ []
    pushed a zero j e = ap (λ (k : ℕ). k ∷ []) (let same : a ≡ j = omega (arith, e) in same)
    pushed a (suc n) j e = ap (λ (ks : List ℕ). a ∷ ks) (pushed (a + 1) n j (omega (arith, e)))
