use Rattle.std.proofs.Common.{◌+◌, ◌-◌}
use Rattle.cover_finder.specs.Common.{billion}
use Rattle.cover_finder.proofs.Tables.{is_all_said}
use Rattle.cover_finder.proofs.table.Table.said.Goals as goal

pub returns-clause-said : goal.returns-clause-said
returns-clause-said c claim xs is =
    let ppb = claim.drift_ppb in
    is_all_said claim xs c.args.self.now is c.args.stretch c.in_ok-low.low c.in_ok-high.high
    (c.in_ok-low.ensures.exact ppb (billion - ppb) (billion + ppb) is.lows.marks is.lows.side_of)
    (c.in_ok-high.ensures.exact ppb (billion + ppb) (billion - ppb) is.highs.marks is.highs.side_of)
    c.part_of.result c.part_of.ensures.server c.part_of.ensures.lo c.part_of.ensures.hi
