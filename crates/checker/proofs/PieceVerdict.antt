-- A verdict by its pieces: all pass, or there is a first that fails.
use Rattle.checker.proofs.Common.{◌≡◌, ℕ, zero, suc, ◌+◌, ◌<◌, ℤ, pos, List, [], ◌∷◌, length, Option, Some, None, refl, ap, ◌∙◌, arith, slice_get, ints, nat_tests, PieceData, ClaimData, Sample, begin_of, last_end, piece_fault, verdict_after, verdict_from, Verdict, Yes, No, Why, rules}
use Rattle.checker.proofs.VerdictPieces.{yes_step}

module _ (samples : List Sample) (claim : ClaimData) where
  -- the fault of a piece, by its number
  abbrev fault_at : ℤ → List PieceData → ℕ → PieceData → Option Why
  fault_at begin pieces k piece = piece_fault samples claim (begin_of begin pieces k) piece

  passes_on : (m : ℕ) (fault : Option Why) (rest : Verdict) → fault ≡ None → verdict_after fault m rest ≡ rest
  passes_on m fault rest none = ap (λ (f : Option Why). verdict_after f m rest) none

  pub all_pass : (m : ℕ) (begin : ℤ) (pieces : List PieceData) → 0 < m + length pieces
      → last_end begin pieces ≡ claim.last
      → ((k : ℕ) (piece : PieceData) → slice_get pieces k ≡ Some piece → fault_at begin pieces k piece ≡ None)
      → verdict_from samples claim m begin pieces ≡ Yes
  all_pass m begin [] some ends each = search rules
  all_pass m begin (piece ∷ pieces) some ends each =
      passes_on m (piece_fault samples claim begin piece) (verdict_from samples claim (m + 1) (pos piece.upto) pieces)
      (each 0 piece refl)
      ∙ all_pass (m + 1) (pos piece.upto) pieces (omega arith) ends (λ k next at. each (suc k) next at)

  pub each_passes : (m : ℕ) (begin : ℤ) (pieces : List PieceData) → verdict_from samples claim m begin pieces ≡ Yes
      → (k : ℕ) (piece : PieceData) → slice_get pieces k ≡ Some piece → fault_at begin pieces k piece ≡ None
  each_passes m begin [] e k piece at = absurd cc
  each_passes m begin (first ∷ pieces) e zero piece at = grind (arith, ints, nat_tests, yes_step)
  each_passes m begin (first ∷ pieces) e (suc k) piece at =
      let step = yes_step samples claim m (piece_fault samples claim begin first) _ e in
      each_passes (m + 1) (pos first.upto) pieces step.1 k piece at

  pub one_fails : (m n : ℕ) (begin : ℤ) (pieces : List PieceData) (piece : PieceData) (why : Why) (k : ℕ)
      → n ≡ m + k → slice_get pieces k ≡ Some piece
      → ((j : ℕ) (earlier : PieceData) → j < k → slice_get pieces j ≡ Some earlier
      → fault_at begin pieces j earlier ≡ None)
      → fault_at begin pieces k piece ≡ Some why → verdict_from samples claim m begin pieces ≡ No n why
  one_fails m n begin [] piece why k is at below fails = absurd cc
  one_fails m n begin (first ∷ pieces) piece why zero is at below fails = search rules
  one_fails m n begin (first ∷ pieces) piece why (suc k) is at below fails =
      passes_on m (piece_fault samples claim begin first) (verdict_from samples claim (m + 1) (pos first.upto) pieces)
      (below 0 first (omega arith) refl)
      ∙ one_fails (m + 1) n (pos first.upto) pieces piece why k (omega arith) at
      (λ j earlier less at_j. below (suc j) earlier (omega arith) at_j) fails
