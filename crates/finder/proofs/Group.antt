-- Groups that hold a server of some kind.
use Rattle.finder.proofs.Common.{◌≡◌, ℕ, zero, suc, ◌<◌, ◌≤◌, Bool, true, false, ◌&&◌, ◌||◌, List, [], ◌∷◌, length, refl, sym, ◌∙◌, inl, inr, arith, ◌==◌, slice_index, list_any, list_any-append, holds_false, false_group_count, numbers_below, found_below, and_parts, and_from, or_cases, eq-eqb}
use Rattle.checker.proofs.Separation.{counted_through}

-- a number that passes
pub any_at : (q : ℕ → Bool) (n : ℕ) → list_any q (numbers_below n) ≡ true → (k : ℕ) × (k < n) × (q k ≡ true)
any_at q zero some = absurd cc
any_at q (suc n) some =
    elim (or_cases (list_any q (numbers_below n)) (q n || false)
    (sym (list_any-append q (numbers_below n) (n ∷ [])) ∙ some)) [
      | inl before ↦ (let rest = any_at q n before in (rest.0, omega arith, rest.2))
      | inr here ↦ (n, omega arith, elim (or_cases (q n) false here) [ inl is ↦ is | inr none ↦ absurd cc ])
    ]

-- no more groups hold a server of a kind that is narrower
pub no_more_groups : (groups : List ℕ) (p q : ℕ → Bool) → ((k : ℕ) → k < length groups → p k ≡ true → q k ≡ true)
    → false_group_count groups p ≤ false_group_count groups q
no_more_groups groups p q implies =
    counted_through (λ group. group) (holds_false groups q) (length groups) (numbers_below (length groups))
    (holds_false groups p) (λ group in_range e.
    let at = any_at (λ server. (slice_index groups server == group) && p server) (length groups) e in
    let parts = and_parts (slice_index groups at.0 == group) (p at.0) at.2 in
    let held = found_below (λ server. (slice_index groups server == group) && q server) (length groups) at.0 at.1
    (and_from (slice_index groups at.0 == group) (q at.0) parts.0 (implies at.0 at.1 parts.1)) in
    found_below (λ k. holds_false groups q k && (k == group)) (length groups) group in_range
    (and_from (holds_false groups q group) (group == group) held (eq-eqb group group refl)))

-- as many hold one of a kind that is the same
pub as_many_groups : (groups : List ℕ) (p q : ℕ → Bool) → ((k : ℕ) → k < length groups → p k ≡ q k)
    → false_group_count groups p ≡ false_group_count groups q
as_many_groups groups p q same =
    let up = no_more_groups groups p q (λ k below e. sym (same k below) ∙ e) in
    omega (arith, up, (no_more_groups groups q p (λ k below e. same k below ∙ e)))
