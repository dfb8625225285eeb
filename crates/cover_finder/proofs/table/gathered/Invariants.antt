use Rattle.std.proofs.Common.{All, map}
use Rattle.cover_finder.specs.Common.{IsWithinRange, claim_data}
use Rattle.cover_finder.specs.Table.{AreMarksUpto, mark_of}
use Rattle.cover_finder.proofs.table.gathered.Given as goal

abbrev pub invariant-loop-number : goal.invariant-loop-number
invariant-loop-number g l = record {
  are : AreMarksUpto (mark_of l.is_high (claim_data l.claim).reading) (map g.X.ToExchange.shown l.exchanges) l.server
      l.number l.marks.items;
  range : All (λ one. IsWithinRange one.mark) l.marks.items;
}
