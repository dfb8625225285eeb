use Rattle.envelope_text.proofs.Common.{◌≡◌, ◌++◌, drop, map, data_of, piece_data, piece_lines, rows_from}
use Rattle.envelope_text.proofs.envelope.add_pieces.Given as goal

abbrev pub invariant-loop-number : goal.invariant-loop-number
invariant-loop-number g l =
    let row = piece_lines l.style l.asked (g.S.SampleSource.samples l.samples) (data_of l.claim) in
    l.text.items ++ rows_from row l.number (map piece_data (drop l.number l.pieces))
    ≡ l.initial.text.items ++ rows_from row 0 (map piece_data l.pieces)
