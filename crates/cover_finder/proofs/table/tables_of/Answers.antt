use Rattle.std.proofs.Common.{◌≤◌, arith, length, map}
use Rattle.cover_finder.specs.Common.{claim_data}
use Rattle.cover_finder.proofs.Tables.{are_tables, tables_more, tables_passed}
use Rattle.cover_finder.proofs.table.tables_of.Goals as goal
use Rattle.cover_finder.proofs.table.tables_of.Goals.{in-Some+in_ok-push-in-Some, in-None}

pub loop-server-preserved : goal.loop-server-preserved
loop-server-preserved g c =
    let claim = claim_data c.args.claim.now in
    let xs = map g.X.ToExchange.shown c.args.exchanges.now in
    let n = c.loop-server.server in
    let tables = c.loop-server.tables.items in
    let so_far = c.loop-server.invariant in
    elim c.match-found.branch [
      | in-Some+in_ok-push-in-Some w ↦
          let is = rw w.in-Some.is at c.in_ok-found.ensures.table in
          let of = rw w.in-Some.is at c.in_ok-found.ensures.server in
          rw (w.tables-is, w.in_ok-push-in-Some.ensures.items)
          (tables_more claim xs n tables so_far w.in-Some.table is of)
      | in-None w ↦
          rw w.tables-is (tables_passed claim xs n tables so_far (rw w.in-None.is at c.in_ok-found.ensures.table))
    ]

pub returns-clause-are : goal.returns-clause-are
returns-clause-are g c =
    let claim = claim_data c.args.claim.now in
    let servers = length claim.servers in
    let past : servers ≤ c.loop-server.server =
    omega (arith, c.loop-server-test.false, c.args.claim.now.lawful.few_servers) in
    are_tables claim (map g.X.ToExchange.shown c.args.exchanges.now) c.loop-server.server servers
    c.loop-server.tables.items c.loop-server.invariant past c.requires.exchanges
