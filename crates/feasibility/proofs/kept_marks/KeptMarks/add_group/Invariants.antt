use Rattle.feasibility.proofs.Common.{drop, map, is_outside}
use Rattle.feasibility.proofs.KeptMarkLists.{IsGathering}
use Rattle.feasibility.proofs.kept_marks.KeptMarks.add_group.Given as goal

abbrev pub invariant-loop-exchange : goal.invariant-loop-exchange
invariant-loop-exchange g l =
    let xs = map g.X.ToExchange.shown l.exchanges in
    IsGathering l.claim.reading (is_outside l.claim.groups.items l.group) xs (drop l.exchange-index xs)
    l.initial.self.lows.items l.initial.self.highs.items l.self.lows.items l.self.highs.items
