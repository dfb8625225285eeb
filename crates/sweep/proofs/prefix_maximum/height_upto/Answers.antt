use Rattle.sweep.proofs.Common.{◌-◌, arith, slice_get-get_or}
use Rattle.sweep.proofs.MaximumList.{IsHeightUpto-none, IsHeightUpto-last}
use Rattle.sweep.proofs.prefix_maximum.height_upto.Goals as goal

pub returns-then-count-eq0 : goal.returns-then-count-eq0
returns-then-count-eq0 c ppb extremes are =
    IsHeightUpto-none ppb extremes c.args.maxima.now are c.args.place c.count_upto-count.result
    c.count_upto-count.ensures.beyond c.if-count-eq0.true

pub returns : goal.returns
returns c ppb extremes are =
    let count = c.count_upto-count.result in
    let last = slice_get-get_or c.args.maxima.now (count - 1) (record { place = 0; height = 0 }) (omega arith) in
    IsHeightUpto-last ppb extremes c.args.maxima.now are c.args.place count c.count_upto-count.ensures.beyond _
    (omega arith) last (c.count_upto-count.ensures.upto _ (omega arith) last)
