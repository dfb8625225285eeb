use Rattle.cover_certificate.proofs.Common.{◌≡◌, ◌-◌, ◌<◌, Some, sym, ap, ◌∙◌, arith, parse_map, mapped_some, next_value, next_members, object, no_members, parts_data, parts_of, piece_from, piece_of}
use Rattle.cover_certificate.proofs.PartsRead.{piece_from-parts}
use Rattle.cover_certificate.proofs.piece.read_piece.Goals as goal

pub returns-in_ok-read_parts : goal.returns-in_ok-read_parts
returns-in_ok-read_parts c =
    let n = c.args.number in
    let d = c.args.depth in
    let s = c.open_object.new.reader in
    let r = c.read_parts.new.reader in
    let parts = parts_data c.in_ok-read_parts.field-0 in
    let opened : (0 < d)
    × (next_value d c.args.reader.now ≡ parse_map object (next_members (d - 1) no_members s)) = grind arith in
    let (ms, same, read) = mapped_some (parts_of n) (next_members (d - 1) no_members s) parts r
    c.in_ok-read_parts.ensures in
    ap (parse_map (piece_of n)) (opened.1 ∙ ap (parse_map object) read)
    ∙ ap (λ p. Some (p, r)) (sym (piece_from-parts n ms) ∙ ap (piece_from n) same ∙ sym c.piece.ensures)
