use Rattle.finder.proofs.Common.{ap, subst, sym, ◌<◌, ◌^◌, ℕ, unsigned_abs, data_of}
use Rattle.finder.proofs.Claim.{length_kept, length_below, length_from_zero, length_fits_unsigned}
use Rattle.finder.proofs.SpanPieces.{count_from, count_fits, some_ticks}
use Rattle.finder.proofs.piece.piece_count.Goals as goal

pub overflow_cast-length : goal.overflow_cast-length
overflow_cast-length c =
    let claim = data_of c.args.claim.now in
    (length_from_zero claim c.args.claim.now.lawful, length_fits_unsigned claim c.args.claim.now.lawful)

pub overflow_cast-result : goal.overflow_cast-result
overflow_cast-result c =
    let claim = data_of c.args.claim.now in
    let kept = ap unsigned_abs (length_kept claim c.args.claim.now.lawful) in
    count_fits _ _ c.div_ceil.result c.max.result
    (some_ticks c.args.step_s c.from-step.result c.from-step.ensures c.requires.step)
    (subst (λ (n : ℕ). n < 2 ^ 64) (sym kept) (length_below claim c.args.claim.now.lawful)) c.div_ceil.ensures
    c.max.ensures

pub returns : goal.returns
returns c =
    let claim = data_of c.args.claim.now in
    let length = ap unsigned_abs (length_kept claim c.args.claim.now.lawful) in
    count_from claim.first claim.last c.args.step_s c.from-step.result _ c.div_ceil.result c.max.result
    c.requires.step c.from-step.ensures length c.div_ceil.ensures c.max.ensures
