use Rattle.certificate.proofs.Common.{option_map, sym, ap, ◌∙◌, left_some, mapped_some, next_value, put, as_array, pieces_data, whole_data, judged, pieces_in, top_parts_of}
use Rattle.certificate.proofs.WholeRead.{whole_pieces, whole_other}
use Rattle.certificate.proofs.reading.Whole.read.Goals as goal

pub returns-in_ok-self-in-pieces : goal.returns-in_ok-self-in-pieces
returns-in_ok-self-in-pieces c =
    let read = option_map (judged pieces_data) c.in_ok-self-in-pieces.field-0 in
    let (v, same, next) = mapped_some (λ value. option_map pieces_in (as_array value))
    (next_value c.args.depth c.args.reader.now) read c.read_listed.new.reader c.in_ok-self-in-pieces.ensures in (
      v,
      next,
      λ found known. whole_pieces v found (whole_data c.args.self.now) known read same
          ∙ ap (λ name. top_parts_of (put name v found)) (sym c.in-pieces.is),
    )

pub returns-in_ok-pass_value-in_default : goal.returns-in_ok-pass_value-in_default
returns-in_ok-pass_value-in_default c =
    let next = left_some (next_value c.args.depth c.args.reader.now) c.pass_value.new.reader
    c.in_ok-pass_value-in_default.ensures.passed in (
      next.0,
      next.1,
      λ found known. whole_other next.0 found (whole_data c.args.self.now) known c.args.name.now
          c.in_default.not-pieces,
    )
