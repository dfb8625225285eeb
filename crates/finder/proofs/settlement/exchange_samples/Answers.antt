use Rattle.finder.proofs.Common.{length, map, data_of as claim_data, reading_kept}
use Rattle.checker.proofs.Exchange.{are_samples}
use Rattle.finder.proofs.SettlementAnswer.{of_most_servers}
use Rattle.finder.proofs.settlement.exchange_samples.Goals as goal

pub invariant_of-result : goal.invariant_of-result
invariant_of-result g c =
    let claim = c.args.claim.now.lawful in
    record {
      lawful = λ k d below. of_most_servers (length c.args.claim.now.servers.items) _ claim.few_servers
          (c.requires.exchanges k d below);
      from_zero = rw (reading_kept (claim_data c.args.claim.now) claim) claim.reading_not_negative;
      at_most_a_second = rw (reading_kept (claim_data c.args.claim.now) claim) claim.reading_in_range;
    }

pub returns-clause-of_claim : goal.returns-clause-of_claim
returns-clause-of_claim g c =
    are_samples (map g.X.ToExchange.shown c.args.exchanges.now) (claim_data c.args.claim.now) c.args.claim.now.lawful
    c.requires.exchanges
