use Rattle.pairing.proofs.Common.{◌∙◌, ℕ, false, ap, arith, get_or, map, exchange_shown, is_source}
use Rattle.pairing.proofs.SourceSteps.{counted_more}
use Rattle.pairing.proofs.sources.source_count.Goals as goal

pub loop-server-preserved : goal.loop-server-preserved
loop-server-preserved c =
    let seen = ap (λ (k : ℕ). get_or c.sources-seen.result k false) c.from.ensures
    ∙ c.sources-seen.ensures c.loop-server.server (omega arith) in
    let more =
    counted_more (is_source (map exchange_shown c.args.exchanges.now)) c.loop-server.server c.loop-server.count
    c.from-count.result _ c.from-count.ensures seen c.loop-server.invariant.so_far in
    record { so_far = more.0; fits = omega arith }
