use Rattle.error_marks.proofs.Compatibility.{of_sorted}
use Rattle.feasibility.proofs.Common.{refl}
use Rattle.feasibility.proofs.SortedMarks.{kept_range, order_there, range_there, written}
use Rattle.feasibility.proofs.kept_marks.KeptMarks.sort_and_compare.Goals as goal

pub all_compatible_in_order-requires-clause-lows :
    goal.all_compatible_in_order-requires-clause-lows
all_compatible_in_order-requires-clause-lows c =
    kept_range c.args.self.now.lows c.deref_mut.result.now c.sort_marks.new.marks c.deref_mut.ensures.value
    c.sort_marks.ensures.permutation c.deref.result.now c.deref.ensures.value c.requires.low_range

pub all_compatible_in_order-requires-clause-highs :
    goal.all_compatible_in_order-requires-clause-highs
all_compatible_in_order-requires-clause-highs c =
    kept_range c.args.self.now.highs c.deref_mut-2.result.now c.sort_marks-2.new.marks c.deref_mut-2.ensures.value
    c.sort_marks-2.ensures.permutation c.deref-2.result.now c.deref-2.ensures.value c.requires.high_range

pub returns-clause-exact : goal.returns-clause-exact
returns-clause-exact c =
    of_sorted c.args.drift_ppb c.args.self.now.lows.items c.deref.result.now c.args.self.now.highs.items
    c.deref-2.result.now
    (written c.args.self.now.lows c.deref_mut.result.now c.sort_marks.new.marks c.deref_mut.ensures.value
    c.sort_marks.ensures.permutation c.deref.result.now c.deref.ensures.value)
    (written c.args.self.now.highs c.deref_mut-2.result.now c.sort_marks-2.new.marks c.deref_mut-2.ensures.value
    c.sort_marks-2.ensures.permutation c.deref-2.result.now c.deref-2.ensures.value)
    c.all_compatible_in_order.result c.all_compatible_in_order.ensures

pub returns-clause-sorted : goal.returns-clause-sorted
returns-clause-sorted c = record {
  low_range = range_there c.args.self.now.lows c.deref_mut.result.now c.sort_marks.new.marks c.deref_mut.ensures.value
      c.sort_marks.ensures.permutation c.requires.low_range;
  high_range = range_there c.args.self.now.highs c.deref_mut-2.result.now c.sort_marks-2.new.marks
      c.deref_mut-2.ensures.value c.sort_marks-2.ensures.permutation c.requires.high_range;
  low_order = order_there c.args.self.now.lows c.deref_mut.result.now c.sort_marks.new.marks
      c.deref_mut.ensures.value c.sort_marks.ensures.permutation c.sort_marks.ensures.order;
  high_order = order_there c.args.self.now.highs c.deref_mut-2.result.now c.sort_marks-2.new.marks
      c.deref_mut-2.ensures.value c.sort_marks-2.ensures.permutation c.sort_marks-2.ensures.order;
}

pub returns-clause-lows : goal.returns-clause-lows
returns-clause-lows c =
    written c.args.self.now.lows c.deref_mut.result.now c.sort_marks.new.marks c.deref_mut.ensures.value
    c.sort_marks.ensures.permutation _ refl

pub returns-clause-highs : goal.returns-clause-highs
returns-clause-highs c =
    written c.args.self.now.highs c.deref_mut-2.result.now c.sort_marks-2.new.marks c.deref_mut-2.ensures.value
    c.sort_marks-2.ensures.permutation _ refl
