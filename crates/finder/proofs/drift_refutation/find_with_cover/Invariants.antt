use Rattle.finder.proofs.Common.{map, take, data_of as claim_data}
use Rattle.finder.specs.Leeway.{IsHeldAtAll}
use Rattle.finder.proofs.drift_refutation.find_with_cover.Given as goal

abbrev pub invariant-loop-reading : goal.invariant-loop-reading
invariant-loop-reading g l =
    IsHeldAtAll (claim_data l.claim) (map g.X.ToExchange.shown l.exchanges) (take l.reading-index l.readings) l.cover
