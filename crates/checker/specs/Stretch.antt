-- The parts of a span that the pieces of a certificate are.
--
-- A piece begins where the piece before it ends, and both hold that reading.
use Rattle.std.specs.Prelude.{ℕ, zero, suc, ℤ, pos, List, [], ◌∷◌, slice_get, IsSomeAnd}
use Rattle.checker.specs.Common.{PieceData, CertificateData, ClaimData, IsInWindow, Stretch}

-- the stretches of pieces of which the first begins here
abbrev pub stretches_from : ℤ → List PieceData → List Stretch
stretches_from begin [] = []
stretches_from begin (piece ∷ pieces) =
    record { begin = begin; end = pos piece.upto } ∷ stretches_from (pos piece.upto) pieces

-- the stretches of a certificate's pieces in the span of a claim
abbrev pub stretches_of : ClaimData → CertificateData → List Stretch
stretches_of claim certificate = stretches_from claim.first certificate.pieces

-- where a piece begins, by its number: where the piece before it ends, and the first one here
abbrev pub begin_of : ℤ → List PieceData → ℕ → ℤ
begin_of begin pieces zero = begin
begin_of begin [] (suc k) = begin
begin_of begin (piece ∷ pieces) (suc k) = begin_of (pos piece.upto) pieces k

-- the stretch of a certificate's piece, by its number
abbrev pub stretch_of : ClaimData → CertificateData → ℕ → PieceData → Stretch
stretch_of claim certificate k piece =
    record { begin = begin_of claim.first certificate.pieces k; end = pos piece.upto }

-- where the last of them ends
abbrev pub last_end : ℤ → List PieceData → ℤ
last_end begin [] = begin
last_end begin (piece ∷ pieces) = last_end (pos piece.upto) pieces

-- one of the stretches holds a reading, which is a whole number of 1/n tick
abbrev pub SomeHoldsReading : List Stretch → ℕ → ℤ → Type 0
SomeHoldsReading stretches n reading =
    (k : ℕ) × IsSomeAnd (slice_get stretches k)
    (λ stretch. IsInWindow n stretch.begin stretch.end reading)
