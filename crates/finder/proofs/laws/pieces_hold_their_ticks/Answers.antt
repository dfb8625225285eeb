use Rattle.finder.proofs.SpanPieces.{IsPieceCount-piece_count_of}
use Rattle.finder.proofs.TickPiece.{held_whole}
use Rattle.finder.proofs.laws.pieces_hold_their_ticks.Goals as goal

pub returns : goal.returns
returns c samples claim step p lawful some tick =
    held_whole samples claim lawful step some
    (IsPieceCount-piece_count_of claim.first claim.last step lawful.span_forward some) p tick
