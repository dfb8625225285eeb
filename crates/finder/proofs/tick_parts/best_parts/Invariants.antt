use Rattle.finder.proofs.Common.{length, best_part}
use Rattle.finder.proofs.PartList.{StandsFor}
use Rattle.finder.proofs.tick_parts.best_parts.Given as goal

abbrev pub invariant-loop-server : goal.invariant-loop-server
invariant-loop-server g l =
    StandsFor (best_part (g.S.SampleSource.samples l.fn.samples) l.claim.drift_ppb l.fn.tick)
    (length l.claim.servers.items) l.server l.parts.items
