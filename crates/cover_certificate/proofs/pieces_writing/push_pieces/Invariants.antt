use Rattle.cover_certificate.proofs.Common.{◌≡◌, ◌<◌, ℕ, ◌++◌, map, take, get_or, join_with_byte, Piece, IsHeld, piece_data, comma, piece_text}
use Rattle.cover_certificate.proofs.pieces_writing.push_pieces.Given as goal

abbrev pub invariant-loop-index : goal.invariant-loop-index
invariant-loop-index l = record {
  written : l.text.items
      ≡ l.fn.text.items ++ join_with_byte comma (map piece_text (map piece_data (take l.index l.pieces)));
  held : (k : ℕ) (d : Piece) → k < l.index → IsHeld (piece_data (get_or l.pieces k d));
}
