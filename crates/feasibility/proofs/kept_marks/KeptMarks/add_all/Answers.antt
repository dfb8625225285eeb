use Rattle.feasibility.proofs.Common.{sym, ◌∙◌}
use Rattle.feasibility.proofs.KeptMarkLists.{lawful_shown, past_kept, past_liar, stopped}
use Rattle.feasibility.proofs.kept_marks.KeptMarks.add_all.Goals as goal
use Rattle.feasibility.proofs.kept_marks.KeptMarks.add_all.Goals.{else-not-contains-via-then-not-contains+in_ok-add+else-not-branch, else-not-contains-via-else-not-contains}

pub add-requires-clause-exchange : goal.add-requires-clause-exchange
add-requires-clause-exchange g c =
    lawful_shown g.X.ToExchange.shown _ c.loop-exchange-test.true c.exchange-item.is
    c.to_exchange-exchange.ensures c.requires.exchanges

pub returns-then-not-branch-clause-possible : goal.returns-then-not-branch-clause-possible
returns-then-not-branch-clause-possible g c =
    stopped g.X.ToExchange.shown _ c.loop-exchange-test.true c.exchange-item.is c.to_exchange-exchange.ensures
    c.loop-exchange.invariant (sym c.contains.ensures.value ∙ c.if-not-contains.true)
    (sym c.in_ok-add.ensures.possible ∙ c.if-not-branch.true)

pub loop-exchange-preserved : goal.loop-exchange-preserved
loop-exchange-preserved g c =
    elim c.else-not-contains.branch [
      | else-not-contains-via-then-not-contains+in_ok-add+else-not-branch w ↦ rw w.self-is (past_kept
          g.X.ToExchange.shown _ c.loop-exchange-test.true c.exchange-item.is c.to_exchange-exchange.ensures
          c.loop-exchange.invariant (sym c.contains.ensures.value ∙ w.if-not-contains.true)
          (sym w.in_ok-add.ensures.possible ∙ w.if-not-branch.false)
          (w.in_ok-add.ensures.lows w.if-not-branch.false) (w.in_ok-add.ensures.highs w.if-not-branch.false)
          (w.in_ok-add.ensures.low_range w.if-not-branch.false) (w.in_ok-add.ensures.high_range w.if-not-branch.false))
      | else-not-contains-via-else-not-contains w ↦ rw w.self-is (past_liar
          g.X.ToExchange.shown _ c.loop-exchange-test.true c.exchange-item.is c.to_exchange-exchange.ensures
          c.loop-exchange.invariant (sym c.contains.ensures.value ∙ w.if-not-contains.false))
    ]
