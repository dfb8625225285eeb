use Rattle.finder.proofs.Common.{map, data_of as claim_data, holds, IsHeld}
use Rattle.finder.proofs.HeldError.{both_sides}
use Rattle.finder.proofs.drift_refutation.find_at.Goals as goal

pub returns-clause-held : goal.returns-clause-held
returns-clause-held g c =
    both_sides c.find_on-2.result (IsHeld (claim_data c.args.claim.now)
    (map g.X.ToExchange.shown c.args.exchanges.now) (holds c.args.place.cover) c.args.place.reading)
    c.in_default.ensures.held c.find_on-2.ensures.held
