use Rattle.feasibility.proofs.Common.{rules, ℤ, to_z, of_z, ◌≡◌, ◌+◌, ◌≤◌, [], ◌∷◌, ◌++◌, drop, length, map, length-map, sym, ap, ◌∙◌, subst, w128, data_of as claim_data, low_mark, high_mark, IsWithinRange, Mark}
use Rattle.feasibility.proofs.KeptMarkLists.{first_left, lawful_shown}
use Rattle.feasibility.proofs.Numbering.{all_numbered, past_other, past_own}
use Rattle.feasibility.proofs.numbered_marks.NumberedMarks.of_group.Goals as goal
use Rattle.feasibility.proofs.numbered_marks.NumberedMarks.of_group.Goals.{then-is_of+in_ok-push+in_ok-push-2+in_ok-push-3, else-is_of}

pub is_of-requires : goal.is_of-requires
is_of-requires g c = record {
  exchange = lawful_shown g.X.ToExchange.shown _ c.loop-number-test.true c.index-exchanges-number.is
      c.to_exchange-exchange.ensures c.requires.exchanges;
}

pub low_mark-requires-clause-exchange : goal.low_mark-requires-clause-exchange
low_mark-requires-clause-exchange g c = record {
  servers = length c.args.claim.now.servers.items;
  lawful = lawful_shown g.X.ToExchange.shown _ c.loop-number-test.true c.index-exchanges-number.is
      c.to_exchange-exchange.ensures c.requires.exchanges;
}

pub high_mark-requires-clause-exchange : goal.high_mark-requires-clause-exchange
high_mark-requires-clause-exchange g c = record {
  servers = length c.args.claim.now.servers.items;
  lawful = lawful_shown g.X.ToExchange.shown _ c.loop-number-test.true c.index-exchanges-number.is
      c.to_exchange-exchange.ensures c.requires.exchanges;
}

pub loop-number-preserved : goal.loop-number-preserved
loop-number-preserved g c =
    let claim = claim_data c.args.claim.now in
    let xs = map g.X.ToExchange.shown c.args.exchanges.now in
    let k = c.loop-number.number in
    let x = c.to_exchange-exchange.result in
    let numbers = c.loop-number.numbers.items in
    let lows = c.loop-number.lows.items in
    let highs = c.loop-number.highs.items in
    let split : drop k xs ≡ x ∷ drop (k + 1) xs =
    first_left g.X.ToExchange.shown _ c.loop-number-test.true c.index-exchanges-number.is
    c.to_exchange-exchange.ensures in
    let reading : to_z w128 (of_z w128 c.args.claim.now.reading) ≡ c.args.claim.now.reading = search rules in
    elim c.if-is_of.branch [
      | then-is_of+in_ok-push+in_ok-push-2+in_ok-push-3 w ↦
          let low_is = w.low_mark.ensures.exact ∙ ap (λ (allowance : ℤ). low_mark allowance x) reading in
          let high_is = w.high_mark.ensures.exact ∙ ap (λ (allowance : ℤ). high_mark allowance x) reading in
          rw (w.numbers-is, w.lows-is, w.highs-is)
          (past_own claim c.args.group xs k x numbers lows highs split c.loop-number.invariant w.push.new.self.items
          w.push-then-is_of.new.self.items w.push-then-is_of-2.new.self.items w.in_ok-push.ensures.items
          (w.in_ok-push-2.ensures.items ∙ ap (λ (m : Mark). lows ++ m ∷ []) low_is)
          (w.in_ok-push-3.ensures.items ∙ ap (λ (m : Mark). highs ++ m ∷ []) high_is)
          (sym c.is_of.ensures ∙ w.if-is_of.true)
          (subst IsWithinRange low_is w.low_mark.ensures.range)
          (subst IsWithinRange high_is w.high_mark.ensures.range))
      | else-is_of w ↦
          rw (w.numbers-is, w.lows-is, w.highs-is)
          (past_other claim c.args.group xs k x numbers lows highs split c.loop-number.invariant
          (sym c.is_of.ensures ∙ w.if-is_of.false))
    ]

pub returns-clause-numbered : goal.returns-clause-numbered
returns-clause-numbered g c =
    let gone = c.loop-number.invariant in
    record {
      low_count = gone.low_count;
      high_count = gone.high_count;
      low_range = gone.low_range;
      high_range = gone.high_range;
    }

pub returns-clause-exact : goal.returns-clause-exact
returns-clause-exact g c =
    let xs = map g.X.ToExchange.shown c.args.exchanges.now in
    let past : length xs ≤ c.loop-number.number =
    rw (length-map c.args.exchanges.now g.X.ToExchange.shown) c.loop-number-test.false in
    all_numbered (claim_data c.args.claim.now) c.args.group xs c.loop-number.number _ past c.loop-number.invariant
    c.first_impossible-alone.ensures
