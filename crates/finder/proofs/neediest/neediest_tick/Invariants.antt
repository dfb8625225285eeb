use Rattle.finder.proofs.Common.{All, data_of, holds, IsGap, OfTables}
use Rattle.finder.proofs.GapSearch.{AreLeft, IsSeen}
use Rattle.finder.proofs.neediest.neediest_tick.Given as goal

abbrev pub invariant-loop : goal.invariant-loop
invariant-loop l = record {
  gaps : All (IsGap (data_of l.claim)) l.left.items;
  known : OfTables (data_of l.claim) l.tables (λ samples.
      IsSeen samples (data_of l.claim) (holds l.cover) l.best
      × AreLeft samples (data_of l.claim) (holds l.cover) l.best.ticks l.left.items);
}
