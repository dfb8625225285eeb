-- What the parts say that a program holds of a piece.
use Rattle.std.specs.Prelude.{List, map, option_map, Vec}
use Rattle.std.specs.Global.{Global}
use Rattle.certificate.specs.declared.certificate.Piece.{Piece}
use Rattle.certificate.specs.Certificate.{PieceData, piece_data}
use Rattle.cover_certificate.specs.declared.piece.Parts.{Parts}
use Rattle.cover_certificate.specs.Parts.{PieceParts, judged}

abbrev pub parts_data : Parts → PieceParts
parts_data parts = record {
  is_known = parts.is_known;
  upto = parts.upto;
  entries = option_map (judged (λ entries. entries.items)) parts.entries;
}

abbrev pub pieces_data : Vec Piece Global → List PieceData
pieces_data pieces = map piece_data pieces.items
