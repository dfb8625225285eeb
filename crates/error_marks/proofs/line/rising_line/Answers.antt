use Rattle.std.proofs.Common.{ℤ, ◌≤◌, ◌^◌, unsigned_abs, sym, subst}
use Rattle.error_marks.proofs.MarkLine.{times_more, times_rate, small_difference, difference_is}
use Rattle.error_marks.proofs.line.rising_line.Goals as goal

pub returns-clause-exact : goal.returns-clause-exact
returns-clause-exact c =
    let rate = c.requires.rate in
    let range = c.requires.range in
    difference_is (times_more rate c.from-rate.ensures c.args.mark.error range.error)
    (times_rate rate c.from-rate.ensures c.args.mark.place range.place)

pub returns-clause-range : goal.returns-clause-range
returns-clause-range c =
    let rate = c.requires.rate in
    let range = c.requires.range in
    subst (λ (z : ℤ). unsigned_abs z ≤ 2 ^ 105) (sym (returns-clause-exact c))
    (small_difference (times_more rate c.from-rate.ensures c.args.mark.error range.error)
    (times_rate rate c.from-rate.ensures c.args.mark.place range.place))
