use Rattle.std.proofs.Common.{List, take}
use Rattle.cover_finder.specs.Common.{Exchange, claim_data}
use Rattle.cover_finder.specs.Hull.{IsHullOf}
use Rattle.cover_finder.specs.Table.{AreTablesOf}
use Rattle.cover_finder.proofs.hull.hull_over.Given as goal

abbrev pub invariant-loop-out : goal.invariant-loop-out
invariant-loop-out l = (xs : List Exchange) → AreTablesOf (claim_data l.claim) xs l.tables
    → IsHullOf (claim_data l.claim) xs l.stretch (take l.out-index l.cases) l.hull
