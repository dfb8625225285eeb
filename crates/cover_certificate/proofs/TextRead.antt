-- Entries and pieces as JSON values that are written plainly.
use Rattle.cover_certificate.proofs.Common.{ℕ, ◌≤◌, refl, arith, serde_json_on_literals, PieceData, IsHeld, NamesSamples, entry_value, piece_value, IsPlain, items_nesting, nesting, plain_items, plain_number}

pub plain_entry : (entry : ℕ × ℕ) → NamesSamples entry → IsPlain (entry_value entry)
plain_entry (low, high) named =
    (plain_number low (omega (arith, named.low)), (plain_number high (omega (arith, named.high)), tt))

pub plain_piece : (piece : PieceData) → IsHeld piece → IsPlain (piece_value piece)
unfolding serde_json_on_literals
plain_piece piece held =
    let entries = plain_items entry_value piece.entries (λ k d less. plain_entry _ (held.readable.named k d less)) in
    (refl, (refl, entries, (refl, plain_number piece.upto held.end, tt)))

-- a piece nests three deep
pub piece-nesting : (piece : PieceData) → nesting (piece_value piece) ≤ 3
piece-nesting piece = omega (arith, items_nesting entry_value 1 (λ e. omega arith) piece.entries)
