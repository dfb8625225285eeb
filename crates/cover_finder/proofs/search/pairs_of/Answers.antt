use Rattle.std.proofs.Common.{map, arith}
use Rattle.std.proofs.lemmas.List.{length-map}
use Rattle.cover_finder.specs.Common.{claim_data}
use Rattle.cover_finder.proofs.MadeConflicts.{numbers_fit}
use Rattle.cover_finder.proofs.search.pairs_of.Goals as goal

pub pair_of-requires-clause-low : goal.pair_of-requires-clause-low
pair_of-requires-clause-low g c =
    let xs = map g.X.ToExchange.shown c.args.exchanges.now in
    (numbers_fit (claim_data c.args.claim.now) xs c.in_ok-found.found.items c.in_ok-found.ensures
    c.as_slice-conflict-items.result.now c.as_slice-conflict-items.ensures.value
    (omega (arith, length-map c.args.exchanges.now g.X.ToExchange.shown, c.requires.few)) c.loop-conflict.conflict-index
    (record { a = 0; b = 0; pair = record { low = 0; high = 0 } }) c.loop-conflict-test.true).0

pub pair_of-requires-clause-high : goal.pair_of-requires-clause-high
pair_of-requires-clause-high g c =
    let xs = map g.X.ToExchange.shown c.args.exchanges.now in
    (numbers_fit (claim_data c.args.claim.now) xs c.in_ok-found.found.items c.in_ok-found.ensures
    c.as_slice-conflict-items.result.now c.as_slice-conflict-items.ensures.value
    (omega (arith, length-map c.args.exchanges.now g.X.ToExchange.shown, c.requires.few)) c.loop-conflict.conflict-index
    (record { a = 0; b = 0; pair = record { low = 0; high = 0 } }) c.loop-conflict-test.true).1
