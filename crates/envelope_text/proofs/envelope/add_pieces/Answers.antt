use Rattle.envelope_text.proofs.Common.{◌∙◌, ◌++◌, length, subst, sym, ap, data_of, IsLawfulPiece, piece_data, piece_lines}
use Rattle.finder.specs.declared.piece_hull.PieceHull.{PieceHull}
use Rattle.audit_text.proofs.Rows.{row_added, rows_done}
use Rattle.envelope_text.proofs.envelope.add_pieces.Goals as goal

pub loop-number-preserved : goal.loop-number-preserved
loop-number-preserved g c =
    let row = piece_lines c.args.style c.args.asked (g.S.SampleSource.samples c.args.samples)
    (data_of c.args.claim.now) in
    let number = c.loop-number.number in
    let old = c.loop-number.text.items in
    row_added row piece_data c.args.pieces.now number c.index-pieces-number.result c.loop-number-test.true old _ _
    (c.in_ok-add_lines.ensures ∙ ap (λ (p : PieceHull). old ++ row number (piece_data p)) c.index-pieces-number.is)
    c.loop-number.invariant

pub add_lines-requires : goal.add_lines-requires
add_lines-requires g c =
    let samples = g.S.SampleSource.samples c.args.samples in
    let piece = c.index-pieces-number.result in
    record {
      samples = c.requires.samples;
      piece = subst (λ (p : PieceHull). IsLawfulPiece (length samples) (piece_data p))
          (sym c.index-pieces-number.is) (c.requires.pieces c.loop-number.number piece c.loop-number-test.true);
    }

pub returns : goal.returns
returns g c =
    let row = piece_lines c.args.style c.args.asked (g.S.SampleSource.samples c.args.samples)
    (data_of c.args.claim.now) in
    rows_done row piece_data c.args.pieces.now c.loop-number.number c.loop-number-test.false _ _ c.loop-number.invariant
