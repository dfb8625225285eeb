-- Pieces that share their ends hold every reading of the span, fractions of a tick too.
use Rattle.checker.proofs.Common.{◌≡◌, ℕ, zero, suc, ◌<◌, ℤ, pos, ◌*ℤ◌, List, [], ◌∷◌, length, Some, refl, arith, slice_get, IsSomeAnd, by_lt_z, PieceData, IsInWindow, stretches_from, begin_of, last_end, SomeHoldsReading, Stretch, ≤ℤ-from_lt, rules}

later : (n : ℕ) (reading : ℤ) (first : Stretch) (stretches : List Stretch) → SomeHoldsReading stretches n reading
    → SomeHoldsReading (first ∷ stretches) n reading
later n reading first stretches (k, holds) = (suc k, holds)

pub covered : (n : ℕ) (reading begin : ℤ) (piece : PieceData) (pieces : List PieceData)
    → IsInWindow n begin (last_end begin (piece ∷ pieces)) reading
    → SomeHoldsReading (stretches_from begin (piece ∷ pieces)) n reading
covered n reading begin piece [] inside = (0, inside)
covered n reading begin piece (next ∷ pieces) inside = by_lt_z (pos piece.upto *ℤ pos n) reading
    (λ after. later n reading _ (stretches_from (pos piece.upto) (next ∷ pieces))
    (covered n reading (pos piece.upto) next pieces (≤ℤ-from_lt (pos piece.upto *ℤ pos n) reading after, inside.1)))
    (λ before. (0, (inside.0, before)))

pub all_covered : (n : ℕ) (reading begin : ℤ) (pieces : List PieceData) → 0 < length pieces
    → IsInWindow n begin (last_end begin pieces) reading → SomeHoldsReading (stretches_from begin pieces) n reading
all_covered n reading begin [] some inside = absurd (omega arith)
all_covered n reading begin (piece ∷ pieces) some inside = covered n reading begin piece pieces inside

-- ---- a piece and its stretch, by their number

-- what holds of the stretch at a number is of the piece there
pub piece_at : (P : Stretch → Type 0) (begin : ℤ) (pieces : List PieceData) (k : ℕ)
    → IsSomeAnd (slice_get (stretches_from begin pieces) k) P
    → (piece : PieceData) × (slice_get pieces k ≡ Some piece)
    × P (record { begin = begin_of begin pieces k; end = pos piece.upto })
piece_at P begin [] zero holds = absurd holds
piece_at P begin [] (suc k) holds = absurd holds
piece_at P begin (piece ∷ pieces) zero holds = (piece, refl, holds)
piece_at P begin (piece ∷ pieces) (suc k) holds = piece_at P (pos piece.upto) pieces k holds

pub stretch_of_piece : (begin : ℤ) (pieces : List PieceData) (k : ℕ) (piece : PieceData)
    → slice_get pieces k ≡ Some piece
    → slice_get (stretches_from begin pieces) k
    ≡ Some (record { begin = begin_of begin pieces k; end = pos piece.upto })
stretch_of_piece begin [] k piece at = absurd cc
stretch_of_piece begin (first ∷ pieces) zero piece at = search rules
stretch_of_piece begin (first ∷ pieces) (suc k) piece at = stretch_of_piece (pos first.upto) pieces k piece at
