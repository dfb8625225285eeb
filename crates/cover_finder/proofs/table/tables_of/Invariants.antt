use Rattle.std.proofs.Common.{map}
use Rattle.cover_finder.specs.Common.{claim_data}
use Rattle.cover_finder.proofs.Tables.{AreTablesUpto}
use Rattle.cover_finder.proofs.table.tables_of.Given as goal

abbrev pub invariant-loop-server : goal.invariant-loop-server
invariant-loop-server g l =
    AreTablesUpto (claim_data l.claim) (map g.X.ToExchange.shown l.exchanges) l.server l.tables.items
