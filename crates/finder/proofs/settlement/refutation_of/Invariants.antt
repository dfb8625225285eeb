use Rattle.finder.proofs.Common.{All, map, take, data_of as claim_data, IsHeldAtAll, samples_of}
use Rattle.finder.proofs.SettlementAnswer.{NeedNoMore}
use Rattle.finder.proofs.settlement.refutation_of.Given as goal

abbrev pub invariant-loop-cover : goal.invariant-loop-cover
invariant-loop-cover g l = record {
  held : All (IsHeldAtAll (claim_data l.claim) (map g.X.ToExchange.shown l.exchanges) l.readings)
      (take l.cover-index l.covers);
  needs : NeedNoMore (samples_of (map g.X.ToExchange.shown l.exchanges) (claim_data l.claim)) (claim_data l.claim)
      l.covers l.cover-index l.most;
}
