use Rattle.certificate.proofs.Common.{map, All, IsHeld, piece_data, piece_text}
use Rattle.certificate.proofs.CommaList.{IsReadUpTo}
use Rattle.certificate.proofs.compact.pieces.Given as goal

abbrev pub invariant-loop-index : goal.invariant-loop-index
invariant-loop-index l = record {
  read : IsReadUpTo piece_text l.fn.scanner l.scanner (map piece_data l.pieces.items) l.index;
  held : All IsHeld (map piece_data l.pieces.items);
}
