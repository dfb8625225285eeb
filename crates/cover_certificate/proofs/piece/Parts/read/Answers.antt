use Rattle.cover_certificate.proofs.Common.{option_map, sym, ap, ◌∙◌, left_some, mapped_some, unsigned_of, next_value, put, as_array, parts_data, entries_in, parts_of, judged}
use Rattle.cover_certificate.proofs.PartsRead.{parts_entries, parts_upto, parts_other}
use Rattle.cover_certificate.proofs.piece.Parts.read.Goals as goal

pub returns-in_ok-self-in-entries : goal.returns-in_ok-self-in-entries
returns-in_ok-self-in-entries c =
    let n = c.args.number in
    let read = option_map (judged (λ entries. entries.items)) c.in_ok-self-in-entries.field-0 in
    let (v, same, next) = mapped_some (λ value. option_map (entries_in n) (as_array value))
    (next_value c.args.depth c.args.reader.now) read c.read_listed.new.reader c.in_ok-self-in-entries.ensures in (
      v,
      next,
      λ found known. parts_entries n v found (parts_data c.args.self.now) known read same
          ∙ ap (λ name. parts_of n (put name v found)) (sym c.in-entries.is),
    )

pub returns-in_ok-self-in-upto : goal.returns-in_ok-self-in-upto
returns-in_ok-self-in-upto c =
    let n = c.args.number in
    let (v, same, next) = mapped_some unsigned_of (next_value c.args.depth c.args.reader.now)
    c.in_ok-self-in-upto.field-0 c.next_unsigned.new.reader c.in_ok-self-in-upto.ensures in (
      v,
      next,
      λ found known. parts_upto n v found (parts_data c.args.self.now) known c.in_ok-self-in-upto.field-0 same
          ∙ ap (λ name. parts_of n (put name v found)) (sym c.in-upto.is),
    )

pub returns-in_ok-pass_value-in_default : goal.returns-in_ok-pass_value-in_default
returns-in_ok-pass_value-in_default c =
    let next = left_some (next_value c.args.depth c.args.reader.now) c.pass_value.new.reader
    c.in_ok-pass_value-in_default.ensures.passed in (
      next.0,
      next.1,
      λ found known. parts_other c.args.number next.0 found (parts_data c.args.self.now) known c.args.name.now
          c.in_default.not-entries c.in_default.not-upto,
    )
