use Rattle.std.proofs.Common.{◌+◌, get_or, refl}
use Rattle.std.proofs.lemmas.Option.{slice_get-get_or}
use Rattle.cover_finder.proofs.Sides.{at_zero, none_before, with_last}
use Rattle.cover_finder.proofs.side.early_ridge.Goals as goal

pub loop-one-init : goal.loop-one-init
loop-one-init c = c.new-ridge.ensures c.args.marks.now 0

pub loop-one-preserved : goal.loop-one-preserved
loop-one-preserved c =
    let marks = c.args.marks.now in
    let i = c.loop-one.one-index in
    let here = slice_get-get_or marks i at_zero c.loop-one-test.true in
    c.in_ok-take.ensures c.args.drift c.args.rate marks 0 i i 0 (i + 1) c.loop-one.invariant here
    (with_last i (i + 1) refl) (none_before marks c.requires.order i (get_or marks i at_zero) here)
