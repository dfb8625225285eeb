use Rattle.sample_interval.proofs.Common.{rules, to_z-of_z, w128}
use Rattle.std.proofs.lemmas.List.{length-map}
use mir.Val.{SFits}
use Rattle.sample_interval.proofs.HeldSamples.{of_some_claim, sample_made}
use Rattle.sample_interval.proofs.exchange_samples.ExchangeSamplesSampleSource.sample_at.Goals as goal

pub sample-requires-clause-exchange : goal.sample-requires-clause-exchange
sample-requires-clause-exchange g c =
    let made = c.args.self in
    let below = rw (length-map, length-map) at c.requires in
    of_some_claim g.X.ToExchange.shown made.exchanges.now c.args.number c.index-self-number.result
    c.to_exchange.result below c.to_exchange.ensures made.lawful

pub returns : goal.returns
returns g c =
    let made = c.args.self in
    let below = rw (length-map, length-map) at c.requires in
    let fits : SFits w128 made.reading = search rules in
    let exact = rw (to_z-of_z w128 made.reading fits) at c.sample.ensures.exact in
    sample_made g.X.ToExchange.shown made.exchanges.now c.args.number c.index-self-number.result
    c.to_exchange.result below c.to_exchange.ensures made.reading c.sample.result
    exact
