-- The first exchange of a group that is impossible by itself, as it is looked for.
use Rattle.feasibility.proofs.Common.{rules, nat_tests, ◌≡◌, ℕ, ◌+◌, ◌<◌, ◌≤◌, true, false, List, Some, length, slice_get, refl, arith, ◌==◌, slice_get_within, ClaimData, IsPossible, Exchange, group_of, IsImpossibleAt, ints}
use Rattle.feasibility.proofs.PassingNumbers.{one_there}

module _ (claim : ClaimData) (xs : List Exchange) (group : ℕ) where
  pub impossible_here : (k : ℕ) (x : Exchange) → slice_get xs k ≡ Some x → (group_of claim x == group) ≡ true
      → (IsPossible claim.reading x → ⊥) → IsImpossibleAt claim xs group k
  impossible_here k x at is cannot = search rules

  pub not_of_group : (k : ℕ) (x : Exchange) → slice_get xs k ≡ Some x → (group_of claim x == group) ≡ false
      → IsImpossibleAt claim xs group k → ⊥
  not_of_group k x at isnt h = grind (arith, ints, nat_tests, one_there xs k k x h.exchange at h.stands refl)

  pub possible_here : (k : ℕ) (x : Exchange) → slice_get xs k ≡ Some x → IsPossible claim.reading x
      → IsImpossibleAt claim xs group k → ⊥
  possible_here k x at can h = grind arith

  pub none_so_far : (n : ℕ) → ((k : ℕ) → k < n → IsImpossibleAt claim xs group k → ⊥)
      → (IsImpossibleAt claim xs group n → ⊥) → (k : ℕ) → k < n + 1 → IsImpossibleAt claim xs group k → ⊥
  none_so_far n before not_this k below h = grind arith

  pub none_at_all : (n m : ℕ) → ((k : ℕ) → k < n → IsImpossibleAt claim xs group k → ⊥) → length xs ≡ m → m ≤ n
      → (k : ℕ) → IsImpossibleAt claim xs group k → ⊥
  none_at_all n m before same past k h = before k (omega (arith, slice_get_within xs k h.exchange h.stands)) h
