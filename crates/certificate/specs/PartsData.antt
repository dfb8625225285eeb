-- What the parts say that a program holds of a piece and of a certificate.
use Rattle.std.specs.Prelude.{List, map, option_map, Vec}
use Rattle.std.specs.Global.{Global}
use Rattle.certificate.specs.declared.certificate.Piece.{Piece}
use Rattle.certificate.specs.declared.reading.Whole.{Whole}
use Rattle.certificate.specs.Certificate.{PieceData, piece_data}
use Rattle.certificate.specs.declared.piece.Parts.{Parts}
use Rattle.certificate.specs.Parts.{PieceParts, TopParts, judged}

abbrev pub parts_data : Parts → PieceParts
parts_data parts = record {
  is_known = parts.is_known;
  upto = parts.upto;
  entries = option_map (judged (λ entries. entries.items)) parts.entries;
}

abbrev pub pieces_data : Vec Piece Global → List PieceData
pieces_data pieces = map piece_data pieces.items

abbrev pub whole_data : Whole → TopParts
whole_data whole = record {
  is_known = whole.is_known;
  pieces = option_map (judged pieces_data) whole.pieces;
}
