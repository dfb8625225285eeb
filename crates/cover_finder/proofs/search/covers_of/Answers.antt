use Rattle.std.proofs.Common.{map}
use Rattle.cover_finder.specs.Common.{claim_data, conflicts_data}
use Rattle.finder.proofs.HeldError.{least_covers}
use Rattle.cover_finder.proofs.search.covers_of.Goals as goal

pub returns : goal.returns
returns g c =
    let claim = claim_data c.args.claim.now in
    let xs = map g.X.ToExchange.shown c.args.exchanges.now in
    let d = conflicts_data c.args.conflicts.now in
    least_covers claim xs d c.requires.groups
    (λ is_in. c.tables_settle_covers.ensures.each claim xs d is_in c.args.claim.now.lawful c.requires.exchanges
    c.requires.groups c.requires.table) c.covers.result.items c.covers.ensures.covers c.covers.ensures.minimal
    c.covers.ensures.few c.covers.ensures.different c.covers.ensures.all_or_64
