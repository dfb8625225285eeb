use Rattle.error_marks.proofs.Compatibility.{where_falling, where_not}
use Rattle.error_marks.proofs.compatible.all_compatible_in_order.Goals as goal

pub returns-then-keep_below : goal.returns-then-keep_below
returns-then-keep_below c =
    where_falling c.args.drift_ppb c.requires.rate c.args.lows.now c.args.highs.now c.keep_below.result
    c.keep_below.ensures c.keep_below-then-keep_below.result c.keep_below-then-keep_below.ensures c.if-keep_below.true

pub returns-else-keep_below : goal.returns-else-keep_below
returns-else-keep_below c =
    where_not c.args.drift_ppb c.requires.rate c.args.lows.now c.args.highs.now c.keep_below.result
    c.keep_below.ensures c.if-keep_below.false
