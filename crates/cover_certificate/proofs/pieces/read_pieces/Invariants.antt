use Rattle.cover_certificate.proofs.Common.{◌≡◌, ◌≤◌, length, parse_map, next_items, max_pieces, pieces_data, judged, pieces_in}
use Rattle.cover_certificate.proofs.PiecesRead.{pieces_after}
use Rattle.cover_certificate.proofs.pieces.read_pieces.Given as goal

abbrev pub invariant-pieces : goal.invariant-pieces
invariant-pieces l = record {
  read : parse_map (pieces_in l.first) (next_items l.depth l.fn.reader)
      ≡ parse_map (pieces_after l.count (judged pieces_data l.found)) (next_items l.depth l.reader);
  few : l.count ≤ max_pieces;
}

abbrev pub decreases-pieces : goal.decreases-pieces
decreases-pieces l = length l.reader
