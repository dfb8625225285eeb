-- What holds of all elements, one more at a time.
use Rattle.std.specs.Bool.{nat_lt}
use Rattle.std.proofs.lemmas.Bool.{ltb-true}
use Rattle.std.proofs.lemmas.List.{get_or_default}
use Rattle.cover_certificate.proofs.Common.{◌≡◌, Bool, true, false, subst, nat_tests, ℕ, ◌+◌, ◌<◌, List, length, get_or, refl, ◌∙◌, arith}

-- what holds of the elements before an index and of the one there holds of one more
pub held_more : {X : Type 0} (P : X → Type 0) (xs : List X) (index : ℕ) (x : X) → index < length xs →
    x ≡ get_or xs index x → P x → ((k : ℕ) (d : X) → k < index → P (get_or xs k d)) →
    (k : ℕ) (d : X) → k < index + 1 → P (get_or xs k d)
held_more {X} P xs index x within is here before k d less = pick (nat_lt k index) refl
  where
    pick : (b : Bool) → nat_lt k index ≡ b → P (get_or xs k d)
    pick true earlier = before k d (ltb-true k index earlier)
    pick false later =
        let same : index ≡ k = grind (arith, nat_tests, later, less) in
        let there : x ≡ get_or xs index d = is ∙ get_or_default xs index x d within in
        subst (λ n. P (get_or xs n d)) same (subst P there here)
