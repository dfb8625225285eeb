use Rattle.finder.proofs.Common.{◌≡◌, ◌<◌, map, false, true, sym, ap, ◌∙◌, arith, map-append, piece_data, data_of as claim_data, is_inside, PieceHullData, count_of, bound_kept}
use Rattle.finder.proofs.Finding.{found_all, found_failing, passed_more, pieces_more}
use Rattle.finder.proofs.SpanPieces.{end_fits, end_kept}
use Rattle.finder.proofs.found.find_pieces.Goals as goal

pub returns-then-not-is_inside : goal.returns-then-not-is_inside
returns-then-not-is_inside g c =
    let claim = claim_data c.args.claim.now in
    let hull = ap (λ (p : PieceHullData). p.hull) c.piece_hull_at-entries.ensures in
    let outside : is_inside claim.bound c.piece_hull_at-entries.result.hull ≡ false =
    rw (bound_kept claim c.args.claim.now.lawful) at (sym c.is_inside.ensures ∙ c.if-not-is_inside.true) in
    let below : c.loop-number.number < count_of claim c.args.step_s =
    rw c.requires.count at c.loop-number-test.true in
    found_failing (g.S.SampleSource.samples c.args.samples) claim c.args.step_s c.loop-number.number _ below hull
    outside c.loop-number.invariant.passed

pub overflow_cast-stretch : goal.overflow_cast-stretch
overflow_cast-stretch g c =
    let claim = claim_data c.args.claim.now in
    end_fits claim c.args.claim.now.lawful c.args.step_s c.loop-number.number _
    (end_kept claim c.args.claim.now.lawful c.args.step_s c.loop-number.number _
    (ap (λ (p : PieceHullData). p.stretch.end) c.piece_hull_at-entries.ensures))

pub loop-number-preserved : goal.loop-number-preserved
loop-number-preserved g c =
    let claim = claim_data c.args.claim.now in
    let samples = g.S.SampleSource.samples c.args.samples in
    let step = c.args.step_s in
    let number = c.loop-number.number in
    let piece = c.piece_hull_at-entries.ensures in
    let end = end_kept claim c.args.claim.now.lawful step number _ (ap (λ (p : PieceHullData). p.stretch.end) piece) in
    let inside : is_inside claim.bound c.piece_hull_at-entries.result.hull ≡ true =
    rw (bound_kept claim c.args.claim.now.lawful) at (sym c.is_inside.ensures ∙ c.if-not-is_inside.false) in
    record {
      pieces = ap (map piece_data) c.in_ok-push.ensures.items ∙ map-append piece_data c.loop-number.pieces.items _
          ∙ pieces_more samples claim step number _ _ _ c.loop-number.invariant.pieces
          (ap (λ (p : PieceHullData). p.entries) piece) end;
      passed = passed_more samples claim step number c.loop-number.invariant.passed
          (ap (λ (p : PieceHullData). is_inside claim.bound p.hull) (sym piece) ∙ inside);
    }

pub returns : goal.returns
returns g c =
    let claim = claim_data c.args.claim.now in
    let all : c.loop-number.number ≡ count_of claim c.args.step_s = omega arith in
    found_all (g.S.SampleSource.samples c.args.samples) claim c.args.step_s _ (rw all at c.loop-number.invariant.pieces)
    (rw all at c.loop-number.invariant.passed)
