use Rattle.cover_certificate.proofs.Common.{option_map, sym, ap, ◌∙◌, left_some, mapped_some, next_value, put, as_array, pieces_data, judged, pieces_in, case_parts_data, case_parts_of, groups_in}
use Rattle.cover_certificate.proofs.CoverRead.{case_groups, case_pieces, case_other}
use Rattle.cover_certificate.proofs.case.CaseParts.read.Goals as goal

pub returns-in_ok-self-in-groups : goal.returns-in_ok-self-in-groups
returns-in_ok-self-in-groups c =
    let n = c.args.number in
    let read = option_map (judged (λ groups. groups.items)) c.in_ok-self-in-groups.field-0 in
    let (v, same, next) = mapped_some (λ value. option_map (groups_in n) (as_array value))
    (next_value c.args.depth c.args.reader.now) read c.read_listed_groups.new.reader c.in_ok-self-in-groups.ensures in (
      v,
      next,
      λ found known. case_groups n c.args.first v found (case_parts_data c.args.self.now) known read same
          ∙ ap (λ name. case_parts_of n c.args.first (put name v found)) (sym c.in-groups.is),
    )

pub returns-in_ok-self-in-pieces : goal.returns-in_ok-self-in-pieces
returns-in_ok-self-in-pieces c =
    let n = c.args.number in
    let read = option_map (judged pieces_data) c.in_ok-self-in-pieces.field-0 in
    let (v, same, next) = mapped_some (λ value. option_map (pieces_in c.args.first) (as_array value))
    (next_value c.args.depth c.args.reader.now) read c.read_listed_pieces.new.reader c.in_ok-self-in-pieces.ensures in (
      v,
      next,
      λ found known. case_pieces n c.args.first v found (case_parts_data c.args.self.now) known read same
          ∙ ap (λ name. case_parts_of n c.args.first (put name v found)) (sym c.in-pieces.is),
    )

pub returns-in_ok-pass_value-in_default : goal.returns-in_ok-pass_value-in_default
returns-in_ok-pass_value-in_default c =
    let next = left_some (next_value c.args.depth c.args.reader.now) c.pass_value.new.reader
    c.in_ok-pass_value-in_default.ensures.passed in (
      next.0,
      next.1,
      λ found known. case_other c.args.number c.args.first next.0 found (case_parts_data c.args.self.now) known
          c.args.name.now c.in_default.not-groups c.in_default.not-pieces,
    )
