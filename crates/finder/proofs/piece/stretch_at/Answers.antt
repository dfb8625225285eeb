use Rattle.finder.proofs.Common.{◌≡◌, suc, ◌-◌, ◌∙◌, sym, ap, arith, to_z, w128, data_of, piece_begin_of, first_kept}
use Rattle.finder.proofs.SpanPieces.{end_computed, stretch_is}
use Rattle.finder.proofs.piece.stretch_at.Goals as goal
use Rattle.finder.proofs.piece.stretch_at.Goals.{then-number-eq0, else-number-eq0}

pub returns : goal.returns
returns c =
    let claim = data_of c.args.claim.now in
    let lawful = c.args.claim.now.lawful in
    let step = c.args.step_s in
    let number = c.args.number in
    let begin_of = piece_begin_of claim.first claim.last step in
    let begin : to_z w128 c.if-number-eq0.begin-bits ≡ begin_of number =
    elim c.if-number-eq0.branch [
      | then-number-eq0 w ↦ w.begin-is ∙ first_kept claim lawful ∙ ap begin_of (sym w.if-number-eq0.true)
      | else-number-eq0 w ↦
          w.begin-is
          ∙ end_computed claim lawful step (number - 1) w.piece_end-begin.result w.piece_end-begin.ensures
          ∙ ap begin_of (let later : suc (number - 1) ≡ number = omega arith in later)
    ] in
    stretch_is claim step number _ _ begin
    (end_computed claim lawful step number c.piece_end-end.result c.piece_end-end.ensures)
