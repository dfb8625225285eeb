-- A span inside the one of a claim, and what is left of a certificate there.
--
-- The pieces that end before the span begins are left out, the first one that reaches the span's
-- end is ended there, and those after it are left out. The entries of the pieces that are left stay
-- as they are. The first of them begins with the span.
use Rattle.std.specs.Prelude.{ℕ, ◌≤◌, pos, ◌≤ℤ◌, nat_lt, nat_le, if◌then◌else◌, List, [], ◌∷◌}
use Rattle.checker.specs.Common.{PieceData, CertificateData, ClaimData}

-- the span from the one Unix tick to the other lies in the claim's
pub record IsSpanWithin (claim : ClaimData) (first last : ℕ) : Type 0 where
  pub begins : claim.first ≤ℤ pos first
  pub forward : first ≤ last
  pub ends : pos last ≤ℤ claim.last

-- the claim for that span
abbrev pub claim_within : ClaimData → ℕ → ℕ → ClaimData
claim_within claim first last = record claim { first = pos first; last = pos last }

-- what is left of pieces in a span; after a piece that is kept, what is left of the others in the
-- rest of the span
abbrev pub pieces_within : ℕ → ℕ → List PieceData → List PieceData
pieces_within first last [] = []
pieces_within first last (piece ∷ pieces) =
    if nat_lt piece.upto first then pieces_within first last pieces else
    if nat_le last piece.upto then record piece { upto = last } ∷ [] else
    piece ∷ pieces_within piece.upto last pieces

-- the certificate, cut to that span
abbrev pub certificate_within : CertificateData → ℕ → ℕ → CertificateData
certificate_within certificate first last =
    record { pieces = pieces_within first last certificate.pieces }
