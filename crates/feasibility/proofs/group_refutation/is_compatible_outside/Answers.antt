use Rattle.feasibility.proofs.Common.{◌≡◌, true≢false, map, refl, sym, ◌∙◌, Some, slice_get, length-map, data_of as claim_data, is_of, IsCompatibleWith, holds}
use Rattle.feasibility.proofs.KeptMarkLists.{lawful_shown, shown_at}
use Rattle.feasibility.proofs.GroupRefutation.{all_held, one_more}
use Rattle.feasibility.proofs.TrueExchanges.{true_at}
use Rattle.feasibility.proofs.group_refutation.is_compatible_outside.Goals as goal

pub is_inside_or_compatible-requires-clause-exchange : goal.is_inside_or_compatible-requires-clause-exchange
is_inside_or_compatible-requires-clause-exchange g c =
    lawful_shown g.X.ToExchange.shown _ c.loop-exchange-test.true c.exchange-item.is c.to_exchange.ensures
    c.requires.exchanges

pub returns-then-not-is_inside_or_compatible : goal.returns-then-not-is_inside_or_compatible
returns-then-not-is_inside_or_compatible g c =
    let claim = claim_data c.args.claim.now in
    let xs = map g.X.ToExchange.shown c.args.exchanges.now in
    let x = c.to_exchange.result in
    let at : slice_get xs c.loop-exchange.exchange-index ≡ Some x =
    shown_at g.X.ToExchange.shown _ c.loop-exchange-test.true c.exchange-item.is c.to_exchange.ensures in (
      λ holds'. absurd (true≢false (sym holds')),
      λ all. absurd (true≢false (sym (c.is_inside_or_compatible.ensures.1
          (λ outside. true_at (is_of claim (holds c.args.groups)) xs (IsCompatibleWith claim c.args.mark)
          c.loop-exchange.exchange-index x all at outside)) ∙ c.if-not-is_inside_or_compatible.true)),
    )

pub loop-exchange-preserved : goal.loop-exchange-preserved
loop-exchange-preserved g c =
    let x = c.to_exchange.result in
    one_more (claim_data c.args.claim.now) c.args.mark (holds c.args.groups)
    (map g.X.ToExchange.shown c.args.exchanges.now) c.loop-exchange.exchange-index x
    (shown_at g.X.ToExchange.shown _ c.loop-exchange-test.true c.exchange-item.is c.to_exchange.ensures)
    (c.is_inside_or_compatible.ensures.0 c.if-not-is_inside_or_compatible.false) c.loop-exchange.invariant

pub returns : goal.returns
returns g c = (
  λ _. all_held (claim_data c.args.claim.now) c.args.mark (holds c.args.groups)
      (map g.X.ToExchange.shown c.args.exchanges.now) c.loop-exchange.exchange-index
      (rw length-map c.loop-exchange-test.false) c.loop-exchange.invariant,
  λ _. refl,
)
