use Rattle.finder.proofs.Common.{pos, map, take, get_or, unsigned_abs, ap, ◌∙◌, map-append, take_all, piece_data, data_of, IsPieceAt, end_after, first_kept}
use Rattle.finder.proofs.LongestPiece.{end_fits, end_kept, piece_at_take, taken_more}
use Rattle.finder.proofs.TablePieces.{best_tables}
use Rattle.finder.proofs.fewest.certificate_over.Goals as goal

pub tables_over-requires-clause-pieces : goal.tables_over-requires-clause-pieces
tables_over-requires-clause-pieces g c =
    rw (first_kept (data_of c.args.claim.now) c.args.claim.now.lawful) c.requires.pieces

pub loop-number-init : goal.loop-number-init
loop-number-init g c = ap (map piece_data) c.in_ok-pieces.ensures.items

pub overflow_cast-ends : goal.overflow_cast-ends
overflow_cast-ends g c =
    let first = c.args.claim.now.first in
    let ends = c.args.ends.now in
    let k = c.loop-number.number in
    end_fits (end_after first (take k ends)) (get_or ends k (pos 0))
    (c.requires.pieces k (end_after first (take k ends)) (get_or ends k (pos 0))
    (piece_at_take first ends k (pos 0) c.loop-number-test.true))

pub loop-number-preserved : goal.loop-number-preserved
loop-number-preserved g c =
    let samples = g.S.SampleSource.samples c.args.samples in
    let claim = data_of c.args.claim.now in
    let first = c.args.claim.now.first in
    let ends = c.args.ends.now in
    let k = c.loop-number.number in
    let below = c.loop-number-test.true in
    let p = end_after first (take k ends) in
    let q = get_or ends k (pos 0) in
    let at = piece_at_take first ends k (pos 0) below in
    let there : IsPieceAt _ ends k p q = rw (first_kept claim c.args.claim.now.lawful) at in
    let entries = c.entries_at-entries.ensures
    ∙ best_tables k c.as_slice.result.now c.in_ok-tables.tables.items _ c.as_slice.ensures.value
    (c.in_ok-tables.ensures.best k p q there) in
    let kept = end_kept p q (c.requires.pieces k p q at) in
    ap (map piece_data) c.in_ok-push.ensures.items ∙ map-append piece_data c.loop-number.pieces.items _
    ∙ taken_more samples claim ends k _ _ _ below c.loop-number.invariant entries (ap unsigned_abs kept)

pub returns : goal.returns
returns g c =
    rw (take_all c.loop-number.number c.args.ends.now c.loop-number-test.false) at c.loop-number.invariant
