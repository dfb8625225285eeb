use Rattle.feasibility.proofs.Common.{◌≡◌, length, map, true≢false, sym, ◌∙◌, subst, rules, of_z, to_z, w128, length-map, data_of as claim_data, IsPossible}
use Rattle.feasibility.proofs.FirstImpossible.{impossible_here, none_at_all, none_so_far, not_of_group, possible_here}
use Rattle.feasibility.proofs.KeptMarkLists.{lawful_shown, shown_at}
use Rattle.feasibility.proofs.numbered_marks.first_impossible.Goals as goal
use Rattle.feasibility.proofs.numbered_marks.first_impossible.Goals.{else-is_of-via-then-is_of+else-not-is_possible, else-is_of-via-else-is_of}

pub is_of-requires : goal.is_of-requires
is_of-requires g c = record {
  exchange = lawful_shown g.X.ToExchange.shown _ c.loop-number-test.true c.index-exchanges-number.is
      c.to_exchange-exchange.ensures c.requires.exchanges;
}

pub is_possible-requires-clause-exchange : goal.is_possible-requires-clause-exchange
is_possible-requires-clause-exchange g c = record {
  servers = length c.args.claim.now.servers.items;
  lawful = lawful_shown g.X.ToExchange.shown _ c.loop-number-test.true c.index-exchanges-number.is
      c.to_exchange-exchange.ensures c.requires.exchanges;
}

pub returns-then-not-is_possible : goal.returns-then-not-is_possible
returns-then-not-is_possible g c =
    let claim = claim_data c.args.claim.now in
    let xs = map g.X.ToExchange.shown c.args.exchanges.now in
    let x = c.to_exchange-exchange.result in
    let reading : to_z w128 (of_z w128 c.args.claim.now.reading) ≡ c.args.claim.now.reading = search rules in
    record {
      is = impossible_here claim xs c.args.group c.loop-number.number x
          (shown_at g.X.ToExchange.shown _ c.loop-number-test.true c.index-exchanges-number.is
          c.to_exchange-exchange.ensures)
          (sym c.is_of.ensures ∙ c.if-is_of.true)
          (λ can. true≢false (sym (c.is_possible.ensures.1
          (subst (λ allowance. IsPossible allowance x) (sym reading) can)) ∙ c.if-not-is_possible.true));
      first = c.loop-number.invariant;
    }

pub loop-number-preserved : goal.loop-number-preserved
loop-number-preserved g c =
    let claim = claim_data c.args.claim.now in
    let xs = map g.X.ToExchange.shown c.args.exchanges.now in
    let x = c.to_exchange-exchange.result in
    let k = c.loop-number.number in
    let at = shown_at g.X.ToExchange.shown _ c.loop-number-test.true c.index-exchanges-number.is
    c.to_exchange-exchange.ensures in
    none_so_far claim xs c.args.group k c.loop-number.invariant
    (elim c.else-is_of.branch [
      | else-is_of-via-then-is_of+else-not-is_possible w ↦
          let reading : to_z w128 (of_z w128 c.args.claim.now.reading) ≡ c.args.claim.now.reading = search rules in
          possible_here claim xs c.args.group k x at
          (subst (λ allowance. IsPossible allowance x) reading (w.is_possible.ensures.0 w.if-not-is_possible.false))
      | else-is_of-via-else-is_of w ↦
          not_of_group claim xs c.args.group k x at (sym c.is_of.ensures ∙ w.if-is_of.false)
    ])

pub returns : goal.returns
returns g c =
    none_at_all (claim_data c.args.claim.now) (map g.X.ToExchange.shown c.args.exchanges.now) c.args.group
    c.loop-number.number _ c.loop-number.invariant (length-map c.args.exchanges.now g.X.ToExchange.shown)
    c.loop-number-test.false
