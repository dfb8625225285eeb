use Rattle.cover_certificate.proofs.Common.{[], option_map, sym, ap, ◌∙◌, left_some, mapped_some, next_value, put, as_array, judged, cases_data, cases_from, conflicts_in, covers_parts_data, covers_parts_of}
use Rattle.cover_certificate.proofs.CoverRead.{covers_cases, covers_conflicts, covers_other}
use Rattle.cover_certificate.proofs.reading.Covers.read.Goals as goal

pub returns-in_ok-self-in-cases : goal.returns-in_ok-self-in-cases
returns-in_ok-self-in-cases c =
    let read = option_map (judged cases_data) c.in_ok-self-in-cases.field-0 in
    let (v, same, next) = mapped_some (λ value. option_map (cases_from []) (as_array value))
    (next_value c.args.depth c.args.reader.now) read c.read_listed_cases.new.reader c.in_ok-self-in-cases.ensures in (
      v,
      next,
      λ found known. covers_cases v found (covers_parts_data c.args.self.now) known read same
          ∙ ap (λ name. covers_parts_of (put name v found)) (sym c.in-cases.is),
    )

pub returns-in_ok-self-in-conflicts : goal.returns-in_ok-self-in-conflicts
returns-in_ok-self-in-conflicts c =
    let read = option_map (judged (λ conflicts. conflicts.items)) c.in_ok-self-in-conflicts.field-0 in
    let (v, same, next) = mapped_some (λ value. option_map conflicts_in (as_array value))
    (next_value c.args.depth c.args.reader.now) read c.read_listed_conflicts.new.reader
    c.in_ok-self-in-conflicts.ensures in (
      v,
      next,
      λ found known. covers_conflicts v found (covers_parts_data c.args.self.now) known read same
          ∙ ap (λ name. covers_parts_of (put name v found)) (sym c.in-conflicts.is),
    )

pub returns-in_ok-pass_value-in_default : goal.returns-in_ok-pass_value-in_default
returns-in_ok-pass_value-in_default c =
    let next = left_some (next_value c.args.depth c.args.reader.now) c.pass_value.new.reader
    c.in_ok-pass_value-in_default.ensures.passed in (
      next.0,
      next.1,
      λ found known. covers_other next.0 found (covers_parts_data c.args.self.now) known c.args.name.now
          c.in_default.not-cases c.in_default.not-conflicts,
    )
