use Rattle.std.proofs.Common.{map, subst}
use Rattle.cover_finder.specs.Common.{case_data, claim_data}
use Rattle.cover_finder.specs.Made.{AreMadeOf}
use Rattle.cover_finder.proofs.MadeCases.{not_made}
use Rattle.cover_finder.proofs.search.certificate_of.Goals as goal

pub returns-clause-none : goal.returns-clause-none
returns-clause-none g c =
    let claim = claim_data c.args.claim.now in
    let xs = map g.X.ToExchange.shown c.args.exchanges.now in
    let made = subst (AreMadeOf claim xs c.args.covers.now) c.in-Some.is (c.in_ok-cases.ensures xs c.requires.tables) in
    not_made claim xs c.args.claim.now.lawful c.requires.exchanges c.args.covers.now c.requires.covers
    (map case_data c.in-Some.cases.items) made c.in_ok-conflicts.conflicts.items c.in_ok-conflicts.ensures
    c.if_accepted.result c.if_accepted.ensures.found
