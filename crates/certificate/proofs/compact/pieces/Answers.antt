use Rattle.certificate.proofs.Common.{◌≡◌, ◌+◌, ◌∷◌, ◌++◌, [], map, sym, ap, ◌∙◌, subst, map-append, All-push, All, IsHeld, piece_data, piece_text}
use Rattle.certificate.proofs.CommaList.{IsReadUpTo, joined_read}
use Rattle.certificate.proofs.compact.pieces.Goals as goal

pub loop-index-preserved : goal.loop-index-preserved
loop-index-preserved c =
    let before = c.loop-index.invariant in
    let held = c.loop-index.pieces.items in
    let piece = c.in-Some.piece in
    let rest = c.next_piece.new.scanner in
    let more : map piece_data held ++ piece_data piece ∷ [] ≡ map piece_data c.push.new.self.items =
    sym (map-append piece_data held (piece ∷ [])) ∙ sym (ap (map piece_data) c.in_ok-push.ensures.items) in
    record {
      read = subst (λ xs. IsReadUpTo piece_text c.args.scanner.now rest xs (c.loop-index.index + 1)) more
          (joined_read piece_text (piece_data piece) rest before.read c.in-Some.ensures.text);
      held = subst (λ xs. All IsHeld xs) more
          (All-push IsHeld (map piece_data held) (piece_data piece) before.held c.in-Some.ensures.held);
    }
