use Rattle.finder.proofs.Common.{◌≡◌, length, map, pos, data_of as claim_data, AreLeeways}
use Rattle.finder.proofs.GroupLeeway.{AreKept}
use Rattle.finder.proofs.leeway.leeways_at.Given as goal

abbrev pub invariant-loop-held : goal.invariant-loop-held
invariant-loop-held g l = record {
  count : length l.leeways ≡ 32;
  kept : AreKept l.leeways;
  so_far : AreLeeways (claim_data l.claim) (map g.X.ToExchange.shown l.exchanges) l.held-index l.side (pos l.reading)
      l.leeways;
}
