use Rattle.envelope_text.proofs.Common.{◌≡◌, ◌++◌, take, flat_map, data_of, piece_data, server_line}
use Rattle.envelope_text.proofs.envelope.add_parts.Given as goal

abbrev pub invariant-loop-part : goal.invariant-loop-part
invariant-loop-part l =
    l.text.items
    ≡ l.initial.text.items
    ++ flat_map (server_line l.style (data_of l.claim) l.number (piece_data l.piece)) (take l.part-index l.parts)
