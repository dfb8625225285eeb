use Rattle.checker.proofs.Common.{◌≡◌, drop, map, list_all, allows}
use Rattle.certificate.specs.Refutation.{data_of}
use Rattle.checker.proofs.refutation.all_admit.Given as goal

abbrev pub invariant-loop-exchange : goal.invariant-loop-exchange
invariant-loop-exchange g l =
    list_all (allows l.claim.reading (data_of l.refutation)) (map g.X.ToExchange.shown l.exchanges)
    ≡ list_all (allows l.claim.reading (data_of l.refutation))
    (map g.X.ToExchange.shown (drop l.exchange-index l.exchanges))
