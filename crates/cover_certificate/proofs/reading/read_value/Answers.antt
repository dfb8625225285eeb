use Rattle.cover_certificate.proofs.Common.{◌≡◌, ◌-◌, ◌<◌, Some, sym, ap, ◌∙◌, arith, parse_map, mapped_some, next_value, next_members, object, no_members, covers_parts_data, covers_parts_of, covers_from, covers_of_parts}
use Rattle.cover_certificate.proofs.CoverRead.{covers_of-parts}
use Rattle.cover_certificate.proofs.reading.read_value.Goals as goal

pub returns-in_ok-read_whole : goal.returns-in_ok-read_whole
returns-in_ok-read_whole c =
    let d = c.args.depth in
    let s = c.open_object.new.reader in
    let r = c.read_whole.new.reader in
    let parts = covers_parts_data c.in_ok-read_whole.field-0 in
    let opened : (0 < d)
    × (next_value d c.args.reader.now ≡ parse_map object (next_members (d - 1) no_members s)) = grind arith in
    let (ms, same, read) = mapped_some covers_parts_of (next_members (d - 1) no_members s) parts r
    c.in_ok-read_whole.ensures in
    ap (parse_map covers_from) (opened.1 ∙ ap (parse_map object) read)
    ∙ ap (λ p. Some (p, r)) (sym (covers_of-parts ms) ∙ ap covers_of_parts same ∙ sym c.certificate.ensures)
