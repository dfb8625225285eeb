use Rattle.sweep.proofs.Common.{arith, rules, Low}
use Rattle.sweep.proofs.ExtremeList.{some_sample}
use Rattle.sweep.proofs.table.table_of.Goals as goal

pub returns-clause-none : goal.returns-clause-none
returns-clause-none g c =
    (λ none. absurd cc, λ none. absurd (some_sample Low _ _ _ c.in_ok-lows.ensures.lows (search rules) none))

pub returns-clause-table : goal.returns-clause-table
returns-clause-table g c = grind arith
