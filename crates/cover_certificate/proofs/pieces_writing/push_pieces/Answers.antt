use Rattle.cover_certificate.proofs.Common.{◌≡◌, ◌<◌, ◌+◌, ◌++◌, length, take, get_or, arith, ap, ◌∙◌, append_assoc, common_steps, IsHeld, piece_data, comma_before, piece_text}
use Rattle.std.proofs.lemmas.Simd.{map-map}
use Rattle.certificate.proofs.CommaList.{joined_more}
use Rattle.std.proofs.lemmas.List.Elements.{All-map}
use Rattle.cover_certificate.proofs.pieces_writing.push_pieces.Goals as goal

pub loop-index-preserved : goal.loop-index-preserved
loop-index-preserved c =
    let i = c.loop-index.index in
    let pieces = c.args.pieces.now in
    let within : i < length pieces = omega arith in
    let d = c.index-pieces-index.result in
    let more = joined_more (λ p. piece_text (piece_data p)) pieces i d within in
    let pushed : c.push_piece.new.text.items
    ≡ c.loop-index.text.items ++ comma_before i ++ piece_text (piece_data (get_or pieces i d)) =
    c.in_ok-push_piece.ensures.text
    ∙ ap (λ p. c.loop-index.text.items ++ comma_before i ++ piece_text (piece_data p)) c.index-pieces-index.is in
    record {
      written = pushed
          ∙ rw (
            c.loop-index.invariant.written,
            map-map piece_text piece_data (take i pieces),
            map-map piece_text piece_data (take (i + 1) pieces),
            more,
          )
          (simp append_assoc);
      held = grind (arith, common_steps);
    }

pub returns-clause-held : goal.returns-clause-held
returns-clause-held c =
    All-map IsHeld piece_data c.args.pieces.now (λ k d less. c.loop-index.invariant.held k d (omega arith))
