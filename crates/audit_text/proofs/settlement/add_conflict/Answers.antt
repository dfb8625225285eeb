use Rattle.std.proofs.Common.{◌∙◌, ap}
use Rattle.audit_text.proofs.Shown.{found_at, keeps_limits}
use Rattle.audit_text.proofs.settlement.add_conflict.Goals as goal

pub add_pair-requires-clause-low : goal.add_pair-requires-clause-low
add_pair-requires-clause-low g c =
    let at = c.index-exchanges-conflict in
    let is = c.to_exchange-low.ensures ∙ ap g.X.ToExchange.shown at.is in
    keeps_limits g.X.ToExchange.shown c.args.exchanges.now c.args.conflict.now.pair.low at.result c.requires.low
    c.to_exchange-low.result is _ c.requires.exchanges

pub add_pair-requires-clause-high : goal.add_pair-requires-clause-high
add_pair-requires-clause-high g c =
    let at = c.index-exchanges-conflict-2 in
    let is = c.to_exchange-high.ensures ∙ ap g.X.ToExchange.shown at.is in
    keeps_limits g.X.ToExchange.shown c.args.exchanges.now c.args.conflict.now.pair.high at.result c.requires.high
    c.to_exchange-high.result is _ c.requires.exchanges

pub returns : goal.returns
returns g c =
    let shown = g.X.ToExchange.shown in
    let xs = c.args.exchanges.now in
    let pair = c.args.conflict.now.pair in
    let one = c.index-exchanges-conflict in
    let other = c.index-exchanges-conflict-2 in
    let low = found_at shown xs pair.low one.result c.requires.low c.to_exchange-low.result
    (c.to_exchange-low.ensures ∙ ap shown one.is) in
    let high = found_at shown xs pair.high other.result c.requires.high c.to_exchange-high.result
    (c.to_exchange-high.ensures ∙ ap shown other.is) in
    rw (low, high) c.add_pair.ensures
