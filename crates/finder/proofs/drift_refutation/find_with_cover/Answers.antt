use Rattle.finder.proofs.Common.{map, take_all, data_of as claim_data, holds, IsHeld, Side}
use Rattle.std.proofs.lemmas.List.Elements.{All-more}
use Rattle.finder.proofs.drift_refutation.find_with_cover.Goals as goal

pub loop-reading-preserved : goal.loop-reading-preserved
loop-reading-preserved g c =
    All-more (λ reading. (side : Side) → IsHeld (claim_data c.args.claim.now)
    (map g.X.ToExchange.shown c.args.exchanges.now) (holds c.args.cover) reading side)
    c.args.readings.now c.loop-reading.reading-index _ c.loop-reading-test.true c.loop-reading.invariant
    c.in_default.ensures.held

pub returns-clause-held : goal.returns-clause-held
returns-clause-held g c =
    rw (take_all c.loop-reading.reading-index c.args.readings.now c.loop-reading-test.false) at c.loop-reading.invariant
