use Rattle.finder.proofs.Common.{◌∙◌, ap, length, data_of, length-map-range_with_len, piece_begin_of, piece_end_of, first_kept, last_kept}
use Rattle.finder.proofs.TablePieces.{are_pieces, piece_at}
use Rattle.finder.proofs.table.tables.Goals as goal

pub tables_over-requires-clause-pieces : goal.tables_over-requires-clause-pieces
tables_over-requires-clause-pieces g c =
    let claim = data_of c.args.claim.now in
    let lawful = c.args.claim.now.lawful in
    rw (c.as_slice.ensures.value, c.in_ok-ends.ensures, first_kept claim lawful, last_kept claim lawful)
    (are_pieces claim.first claim.last c.args.step_s c.args.count lawful.span_begins lawful.span_forward
    lawful.span_ends)

pub returns-clause-long : goal.returns-clause-long
returns-clause-long g c i d within =
    c.in_ok-tables.ensures.long i d within ∙ ap length (c.as_slice.ensures.value ∙ c.in_ok-ends.ensures)
    ∙ length-map-range_with_len _ 0 c.args.count

pub returns-clause-best : goal.returns-clause-best
returns-clause-best g c k below =
    let claim = data_of c.args.claim.now in
    let lawful = c.args.claim.now.lawful in
    c.in_ok-tables.ensures.best k (piece_begin_of claim.first claim.last c.args.step_s k)
    (piece_end_of claim.first claim.last c.args.step_s k)
    (rw (c.as_slice.ensures.value, c.in_ok-ends.ensures, first_kept claim lawful, last_kept claim lawful)
    (piece_at claim.first claim.last c.args.step_s c.args.count k below))
