use Rattle.std.proofs.lemmas.List.{take_all}
use Rattle.cover_finder.specs.Common.{claim_data}
use Rattle.cover_finder.proofs.Hulls.{hull_of_more, no_hulls}
use Rattle.cover_finder.proofs.hull.hull_over.Goals as goal

pub loop-out-init : goal.loop-out-init
loop-out-init c xs tables = no_hulls (claim_data c.args.claim.now) xs c.args.stretch

pub loop-out-preserved : goal.loop-out-preserved
loop-out-preserved c xs tables =
    rw c.join-hull.ensures
    (hull_of_more (claim_data c.args.claim.now) xs c.args.stretch c.args.cases.now c.loop-out.out-index _
    c.loop-out.hull c.hull_without.result c.loop-out-test.true (c.loop-out.invariant xs tables)
    (c.hull_without.ensures xs tables))

pub returns : goal.returns
returns c xs tables =
    rw (take_all c.loop-out.out-index c.args.cases.now c.loop-out-test.false) at (c.loop-out.invariant xs tables)
