use Rattle.checker.proofs.Common.{length, sym, ap, ◌∙◌, subst, Some, slice_get-get_or}
use Rattle.pairing.specs.Exchange.{IsLawful as IsLawfulExchange}
use Rattle.checker.proofs.Exchange.{lawful_at}
use Rattle.checker.proofs.refutation.all_admit.Goals as goal

pub allows-requires : goal.allows-requires
allows-requires g c =
    let at = slice_get-get_or c.args.exchanges.now _ c.exchange-item.result c.loop-exchange-test.true in
    let lawful = lawful_at g.X.ToExchange.shown c.args.exchanges.now _ c.loop-exchange.exchange-index
    c.exchange-item.result (at ∙ ap Some (sym c.exchange-item.is)) c.requires.exchanges in
    record {
      exchange = subst (IsLawfulExchange (length c.args.claim.now.servers.items)) (sym c.to_exchange.ensures) lawful;
    }
