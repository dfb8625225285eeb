use Rattle.finder.proofs.Common.{◌≡◌, length, map, ap, ◌∙◌, arith, All, map-append, data_of as claim_data, IsLawfulPiece, PieceHullData, All-map_back}
use Rattle.finder.specs.Envelope.{piece_data}
use Rattle.finder.proofs.EnvelopePieces.{envelope_is, lawful_pieces, least_more, piece_hulls_more}
use Rattle.finder.proofs.envelope.envelope_to.Goals as goal

pub loop-number-preserved : goal.loop-number-preserved
loop-number-preserved g c =
    let samples = g.S.SampleSource.samples c.args.samples in
    let claim = claim_data c.args.claim.now in
    let number = c.loop-number.number in
    let piece = c.piece_hull_at-piece.ensures in
    record {
      pieces = ap (map piece_data) c.in_ok-push.ensures.items ∙ map-append piece_data c.loop-number.pieces.items _
          ∙ piece_hulls_more samples claim c.args.step_s number _ _ c.loop-number.invariant.pieces piece;
      least = c.with_piece-least.ensures.value
          ∙ least_more samples claim c.args.step_s number _ _ c.loop-number.invariant.least
          (ap (λ (p : PieceHullData). p.hull) piece);
      below = c.with_piece-least.ensures.in_range;
    }

pub returns-clause-value : goal.returns-clause-value
returns-clause-value g c =
    let all : c.loop-number.number ≡ c.args.count = omega arith in
    envelope_is (g.S.SampleSource.samples c.args.samples) (claim_data c.args.claim.now) c.args.step_s c.args.count _ _
    (rw all at c.loop-number.invariant.pieces) (rw all at c.loop-number.invariant.least)

pub returns-clause-lawful : goal.returns-clause-lawful
returns-clause-lawful g c =
    let samples = g.S.SampleSource.samples c.args.samples in
    let all : All (IsLawfulPiece (length samples)) (map piece_data c.loop-number.pieces.items) =
    rw c.loop-number.invariant.pieces
    (lawful_pieces samples (claim_data c.args.claim.now) c.args.step_s
    c.args.claim.now.lawful c.loop-number.number) in
    record {
      pieces = All-map_back (IsLawfulPiece (length samples)) piece_data c.loop-number.pieces.items all;
      least = c.loop-number.invariant.below;
    }
