use Rattle.std.proofs.Common.{◌<ℤ◌, ◌∷◌, [], ap, arith, length, map, pos}
use Rattle.std.proofs.lemmas.Int.{ints}
use Rattle.std.proofs.lemmas.List.{length-append}
use Rattle.certificate.specs.Certificate.{piece_data}
use Rattle.cover_finder.specs.Common.{claim_data, holds}
use Rattle.cover_finder.proofs.ReachPieces.{data_more, end_reached, more_made, more_shown}
use Rattle.cover_finder.proofs.reach.Search.longest_pieces.Goals as goal

pub returns-then-end-last-clause-longest : goal.returns-then-end-last-clause-longest
returns-then-end-last-clause-longest c xs tables none =
    let old = c.pieces.pieces.items in
    let new = c.push.new.self.items in
    let piece = c.longest_piece-piece.result in
    let found = c.longest_piece-piece.ensures in
    (more_shown (claim_data c.args.self.now.claim.now) xs (holds c.args.self.now.out) c.pieces.begin
    (map piece_data old) (map piece_data new) (piece_data piece) (data_more new old piece c.in_ok-push.ensures.items)
    (c.pieces.invariant.shown xs tables none) c.pieces.invariant.made.begins (found.longest xs tables none)
    (found.shows xs tables none)).longest

pub returns-then-end-last-clause-show : goal.returns-then-end-last-clause-show
returns-then-end-last-clause-show c xs tables none =
    let old = c.pieces.pieces.items in
    let new = c.push.new.self.items in
    let piece = c.longest_piece-piece.result in
    let found = c.longest_piece-piece.ensures in
    (more_shown (claim_data c.args.self.now.claim.now) xs (holds c.args.self.now.out) c.pieces.begin
    (map piece_data old) (map piece_data new) (piece_data piece) (data_more new old piece c.in_ok-push.ensures.items)
    (c.pieces.invariant.shown xs tables none) c.pieces.invariant.made.begins (found.longest xs tables none)
    (found.shows xs tables none)).show

pub returns-then-end-last-clause-stop : goal.returns-then-end-last-clause-stop
returns-then-end-last-clause-stop c xs tables none =
    let old = c.pieces.pieces.items in
    let new = c.push.new.self.items in
    let piece = c.longest_piece-piece.result in
    end_reached (claim_data c.args.self.now.claim.now) (map piece_data old) (map piece_data new) (piece_data piece)
    (data_more new old piece c.in_ok-push.ensures.items)
    (omega (arith, ints, c.if-end-last.true, c.last-last.ensures))

pub pieces-preserved : goal.pieces-preserved
pieces-preserved c =
    let claim = claim_data c.args.self.now.claim.now in
    let old = c.pieces.pieces.items in
    let new = c.push.new.self.items in
    let piece = c.longest_piece-piece.result in
    let found = c.longest_piece-piece.ensures in
    let made = c.pieces.invariant.made in
    let is = data_more new old piece c.in_ok-push.ensures.items in
    let before : pos piece.upto <ℤ claim.last =
    omega (arith, ints, found.to_last, c.if-end-last.false, c.last-last.ensures) in
    record {
      few = omega (
        arith,
        c.pieces.pieces.ok.0,
        ap length c.in_ok-push.ensures.items,
        length-append old (piece ∷ []),
      );
      made = more_made claim (map piece_data old) (map piece_data new) (piece_data piece) is c.pieces.begin made
          found.from_begin before;
      shown = λ xs tables none.
          more_shown claim xs (holds c.args.self.now.out) c.pieces.begin (map piece_data old) (map piece_data new)
          (piece_data piece) is (c.pieces.invariant.shown xs tables none) made.begins (found.longest xs tables none)
          (found.shows xs tables none);
    }
