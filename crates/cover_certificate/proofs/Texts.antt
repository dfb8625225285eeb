-- The texts of an entry and of a piece are those of their JSON values.
use Rattle.cover_certificate.proofs.Common.{◌≡◌, ℕ, append_assoc, serde_json_on_literals, compact_text, PieceData, entry_text, piece_text, entry_value, piece_value}
use Rattle.certificate.proofs.Texts.{items_text-map}

pub entry_text-value : (entry : ℕ × ℕ) → compact_text (entry_value entry) ≡ entry_text entry
entry_text-value (low, high) = simp append_assoc

pub piece_text-value : (piece : PieceData) → compact_text (piece_value piece) ≡ piece_text piece
unfolding serde_json_on_literals
piece_text-value piece = rw (items_text-map entry_value entry_text entry_text-value piece.entries) (simp append_assoc)
