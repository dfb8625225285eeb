use Rattle.error_marks.proofs.Common.{List, subst, AreInFront, Mark}
use Rattle.error_marks.proofs.FrontMarks.{in_front_in_any_order}
use Rattle.error_marks.proofs.conflict.marks_in_front.Goals as goal

pub returns : goal.returns
returns c =
    let ppb = c.args.drift_ppb in
    let lows = c.args.lows.now in
    let n = c.in_ok-count.count in
    let sorted = c.in_ok-sorted.sorted.items in
    in_front_in_any_order ppb lows c.args.highs.now sorted n c.in_ok-sorted.ensures.permutation
    (subst (λ (highs : List Mark). AreInFront ppb lows highs n) c.deref.ensures.value c.in_ok-count.ensures)
