use Rattle.cover_certificate.proofs.Common.{◌≡◌, ◌-◌, ◌<◌, Some, sym, ap, ◌∙◌, arith, parse_map, mapped_some, next_value, next_members, object, no_members, case_parts_data, case_parts_of, case_of, case_of_parts}
use Rattle.cover_certificate.proofs.CoverRead.{case_of-parts}
use Rattle.cover_certificate.proofs.case.read_case.Goals as goal

pub returns-in_ok-read_parts : goal.returns-in_ok-read_parts
returns-in_ok-read_parts c =
    let n = c.args.number in
    let p = c.args.first in
    let d = c.args.depth in
    let s = c.open_object.new.reader in
    let r = c.read_parts.new.reader in
    let parts = case_parts_data c.in_ok-read_parts.field-0 in
    let opened : (0 < d)
    × (next_value d c.args.reader.now ≡ parse_map object (next_members (d - 1) no_members s)) = grind arith in
    let (ms, same, read) = mapped_some (case_parts_of n p) (next_members (d - 1) no_members s) parts r
    c.in_ok-read_parts.ensures in
    ap (parse_map (case_of n p)) (opened.1 ∙ ap (parse_map object) read)
    ∙ ap (λ q. Some (q, r)) (sym (case_of-parts n p ms) ∙ ap (case_of_parts n) same ∙ sym c.case.ensures)
