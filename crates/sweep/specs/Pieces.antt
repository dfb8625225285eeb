-- Consecutive pieces of a span, and the best samples of each.
--
-- Piece k ends at `ends[k]`. The first begins at `first`, each other where the one before it ends.
-- So `first` and the ends, one after another, are the begins.
use Rattle.std.specs.Prelude.{◌≡◌, ℕ, ℤ, List, ◌∷◌, length, Some, slice_get}
use Rattle.sweep.specs.Common.{Sample, best_of, IsPiece}

-- piece k runs from p to q
pub record IsPieceAt (first : ℤ) (ends : List ℤ) (k : ℕ) (p q : ℤ) : Type 0 where
  pub begins : slice_get (first ∷ ends) k ≡ Some p
  pub ends_at : slice_get ends k ≡ Some q

-- each is a piece of Unix ticks: the first begins at 0 or later, none ends before it begins, and
-- none ends at 2^64 or later
abbrev pub ArePieces : ℤ → List ℤ → Type 0
ArePieces first ends = (k : ℕ) (p q : ℤ) → IsPieceAt first ends k p q → IsPiece p q

-- there is an entry for each piece, and it names the server's best samples of that piece
pub record AreBestOfPieces (samples : List Sample) (server : ℕ) (first : ℤ) (ends : List ℤ)
    (ppb : ℕ) (chosen : List (ℕ × ℕ)) : Type 0 where
  pub as_many : length chosen ≡ length ends
  pub best : (k : ℕ) (p q : ℤ) → IsPieceAt first ends k p q →
      slice_get chosen k ≡ best_of samples server p q ppb

-- what stands at the same index of both lists
pub record ArePairsOf (lows highs : List ℕ) (pairs : List (ℕ × ℕ)) : Type 0 where
  pub as_many : length pairs ≡ length lows
  pub each : (k low high : ℕ) → slice_get lows k ≡ Some low → slice_get highs k ≡ Some high →
      slice_get pairs k ≡ Some (low, high)
