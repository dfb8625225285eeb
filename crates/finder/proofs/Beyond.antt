-- Accepted certificates reach no further than the longest pieces.
use Rattle.finder.proofs.Common.{◌≡◌, ℕ, zero, suc, ℤ, pos, ◌≤ℤ◌, List, [], ◌∷◌, Some, refl, arith, slice_get, ints, PieceData, CertificateData, ClaimData, IsLawful, Sample, verdict_of, Yes, AreLongest, AreSamplesOf}
use Rattle.finder.proofs.FewestPieces.{InSpan, end_in_span, first_in_span, no_further, pass_of}
use Rattle.finder.proofs.Refusal.{Pass}

module _ (samples : List Sample) (claim : ClaimData) (lawful : IsLawful claim)
    (are : AreSamplesOf claim samples) where
  no_further_each : (a p : ℤ) (theirs : List PieceData) (ours : List ℤ) → InSpan claim p → a ≤ℤ p
      → AreLongest samples claim p ours → Pass samples claim a theirs → (k : ℕ) (end : ℤ) (piece : PieceData)
      → slice_get ours k ≡ Some end → slice_get theirs k ≡ Some piece → pos piece.upto ≤ℤ end
  no_further_each a p theirs [] is earlier longest pass k end piece at at' = absurd cc
  no_further_each a p [] (q ∷ ours) is earlier longest pass k end piece at at' = absurd cc
  no_further_each a p (t ∷ theirs) (q ∷ ours) is earlier longest pass zero end piece at at' =
      let end_is : q ≡ end = cc in
      let piece_is : t ≡ piece = cc in
      rw (← end_is, ← piece_is)
      (no_further samples claim lawful are a p q t is earlier longest.0 (pass 0 t refl))
  no_further_each a p (t ∷ theirs) (q ∷ ours) is earlier longest pass (suc k) end piece at at' =
      no_further_each (pos t.upto) q theirs ours (end_in_span samples claim lawful are p q is longest.0)
      (no_further samples claim lawful are a p q t is earlier longest.0 (pass 0 t refl)) longest.2
      (λ j other is'. pass (suc j) other is') k end piece at at'

  pub ends_no_later : (ends : List ℤ) (other : CertificateData) (k : ℕ) (end : ℤ) (piece : PieceData)
      → AreLongest samples claim claim.first ends → verdict_of samples claim other ≡ Yes
      → slice_get ends k ≡ Some end → slice_get other.pieces k ≡ Some piece → pos piece.upto ≤ℤ end
  ends_no_later ends other k end piece longest accepted at at' =
      no_further_each claim.first claim.first other.pieces ends (first_in_span samples claim lawful are)
      (omega (arith, ints)) longest (pass_of samples claim lawful are other accepted) k end piece at at'
