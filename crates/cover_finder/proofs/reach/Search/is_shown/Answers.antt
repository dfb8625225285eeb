use Rattle.std.proofs.Common.{refl}
use Rattle.cover_finder.specs.Common.{claim_data, holds}
use Rattle.cover_finder.proofs.ReachPieces.{answered}
use Rattle.cover_finder.proofs.reach.Search.is_shown.Goals as goal

pub returns : goal.returns
returns c xs tables none =
    answered (claim_data c.args.self.now.claim.now) xs (holds c.args.self.now.out) c.args.begin c.args.end c.hull.result
    c.shows.result c.shows.result (c.hull.ensures xs tables none) (c.shows.ensures none) refl
