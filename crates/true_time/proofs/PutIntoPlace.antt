-- What stands in the places of a list when another thing was put into one of them.
use Rattle.true_time.proofs.Common.{◌≡◌, ◌∙◌, ◌⊎◌, inl, inr, ⊎_elim, ℕ, zero, suc, List, [], ◌∷◌, ◌++◌, Option, Some, ap, arith, drop, length, refl, same_Some, set, slice_get, take}
use Rattle.std.proofs.lemmas.Grind.{common_steps}

-- what stands in a place is the new thing, or stood there before
stands_there : {Y : Type 0} (ys : List Y) (place : ℕ) (new : Y) (k : ℕ) (y : Y)
    → slice_get (set ys place new) k ≡ Some y → ((place ≡ k) × (new ≡ y)) ⊎ (slice_get ys k ≡ Some y)
stands_there [] place new k y there = inr there
stands_there (x ∷ ys) zero new zero y there = inl (refl, same_Some new y there)
stands_there (x ∷ ys) zero new (suc k) y there = inr there
stands_there (x ∷ ys) (suc place) new zero y there = inr there
stands_there (x ∷ ys) (suc place) new (suc k) y there =
    ⊎_elim (λ both. inl (ap suc both.0, both.1)) (λ before. inr before) (stands_there ys place new k y there)

-- what is true of all that was found and of the new thing, if it is one, stays true of all that is found
pub put_into_place : {X Y : Type 0} (Is : X → Y → Type 0) (xs : List X) (found : List (Option Y))
    → ((k : ℕ) (x : X) → slice_get xs k ≡ Some x → (y : Y) → slice_get found k ≡ Some (Some y) → Is x y)
    → (place : ℕ) (new : Option Y) → ((x : X) → slice_get xs place ≡ Some x → (y : Y) → new ≡ Some y → Is x y)
    → (k : ℕ) (x : X) → slice_get xs k ≡ Some x
    → (y : Y) → slice_get (set found place new) k ≡ Some (Some y) → Is x y
put_into_place Is xs found before place new is k x at y there =
    ⊎_elim
    (λ both. is x (ap (slice_get xs) both.0 ∙ at) y both.1)
    (before k x at y)
    (stands_there found place new k (Some y) there)

-- a slice of the whole list, as long as it was, is the whole list when it is written back
pub written_back : {X : Type 0} (new old : List X) (n : ℕ) → length new ≡ length old → length old ≡ n
    → new ≡ take n (new ++ drop (length new) old)
written_back new old n same long = grind (arith, common_steps)
