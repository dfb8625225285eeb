use Rattle.error_marks.proofs.Common.{All-permutation, IsWithinRange}
use Rattle.error_marks.proofs.Compatibility.{of_sorted}
use Rattle.error_marks.proofs.compatible.all_compatible.Goals as goal

pub all_compatible_in_order-requires-clause-lows : goal.all_compatible_in_order-requires-clause-lows
all_compatible_in_order-requires-clause-lows c =
    All-permutation IsWithinRange c.args.lows.now c.sort_marks.new.marks c.sort_marks.ensures.permutation
    c.requires.lows

pub all_compatible_in_order-requires-clause-highs : goal.all_compatible_in_order-requires-clause-highs
all_compatible_in_order-requires-clause-highs c =
    All-permutation IsWithinRange c.args.highs.now c.sort_marks-2.new.marks c.sort_marks-2.ensures.permutation
    c.requires.highs

pub returns-clause-exact : goal.returns-clause-exact
returns-clause-exact c =
    of_sorted c.args.drift_ppb c.args.lows.now c.sort_marks.new.marks c.args.highs.now c.sort_marks-2.new.marks
    c.sort_marks.ensures.permutation c.sort_marks-2.ensures.permutation c.all_compatible_in_order.result
    c.all_compatible_in_order.ensures
