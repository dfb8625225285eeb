use Rattle.feasibility.proofs.Common.{◌<◌, length, sym, ◌∙◌}
use Rattle.feasibility.proofs.KeptMarkLists.{is_inside, isnt_inside, lawful_shown, past_kept, past_liar, stopped, within_groups}
use Rattle.feasibility.proofs.kept_marks.KeptMarks.add_group.Goals as goal
use Rattle.feasibility.proofs.kept_marks.KeptMarks.add_group.Goals.{else-is_inside-via-then-is_inside+in_ok-add+else-not-branch, else-is_inside-via-else-is_inside}

pub index-requires : goal.index-requires
index-requires g c =
    let lawful = lawful_shown g.X.ToExchange.shown _ c.loop-exchange-test.true c.exchange-item.is
    c.to_exchange-exchange.ensures c.requires.exchanges in
    within_groups _ _ _ _ lawful.listed c.args.claim.now.lawful.group_for_each c.args.claim.now.groups.ok.0

pub add-requires-clause-exchange : goal.add-requires-clause-exchange
add-requires-clause-exchange g c =
    lawful_shown g.X.ToExchange.shown _ c.loop-exchange-test.true c.exchange-item.is
    c.to_exchange-exchange.ensures c.requires.exchanges

pub returns-then-not-branch-clause-possible : goal.returns-then-not-branch-clause-possible
returns-then-not-branch-clause-possible g c =
    let groups = c.args.claim.now.groups.items in
    let server = c.to_exchange-exchange.result.server in
    let lawful = lawful_shown g.X.ToExchange.shown _ c.loop-exchange-test.true c.exchange-item.is
    c.to_exchange-exchange.ensures
    c.requires.exchanges in
    let below : server < length groups = rw c.args.claim.now.lawful.group_for_each lawful.listed in
    stopped g.X.ToExchange.shown _ c.loop-exchange-test.true c.exchange-item.is c.to_exchange-exchange.ensures
    c.loop-exchange.invariant
    (is_inside groups c.args.group server c.index.result.now below c.index.ensures c.if-is_inside.true)
    (sym c.in_ok-add.ensures.possible ∙ c.if-not-branch.true)

pub loop-exchange-preserved : goal.loop-exchange-preserved
loop-exchange-preserved g c =
    let groups = c.args.claim.now.groups.items in
    let server = c.to_exchange-exchange.result.server in
    let lawful = lawful_shown g.X.ToExchange.shown _ c.loop-exchange-test.true c.exchange-item.is
    c.to_exchange-exchange.ensures
    c.requires.exchanges in
    let below : server < length groups = rw c.args.claim.now.lawful.group_for_each lawful.listed in
    elim c.else-is_inside.branch [
      | else-is_inside-via-then-is_inside+in_ok-add+else-not-branch w ↦ rw w.self-is (past_kept
          g.X.ToExchange.shown _ c.loop-exchange-test.true c.exchange-item.is c.to_exchange-exchange.ensures
          c.loop-exchange.invariant
          (is_inside groups c.args.group server c.index.result.now below c.index.ensures w.if-is_inside.true)
          (sym w.in_ok-add.ensures.possible ∙ w.if-not-branch.false)
          (w.in_ok-add.ensures.lows w.if-not-branch.false) (w.in_ok-add.ensures.highs w.if-not-branch.false)
          (w.in_ok-add.ensures.low_range w.if-not-branch.false) (w.in_ok-add.ensures.high_range w.if-not-branch.false))
      | else-is_inside-via-else-is_inside w ↦ rw w.self-is (past_liar
          g.X.ToExchange.shown _ c.loop-exchange-test.true c.exchange-item.is c.to_exchange-exchange.ensures
          c.loop-exchange.invariant
          (isnt_inside groups c.args.group server c.index.result.now below c.index.ensures w.if-is_inside.false))
    ]
