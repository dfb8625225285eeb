use Rattle.error_marks.proofs.Common.{◌-ℤ◌, ◌∙◌, sym, subst, refl, rest_fits, less_fits, less_is, IsWithinRange}
use Rattle.error_marks.proofs.Bound.{kept, same_mark, start_small, start_is, lesser, low_range, kept_place}
use Rattle.error_marks.proofs.bounds.low_mark.Goals as goal

pub overflow_sub-result : goal.overflow_sub-result
overflow_sub-result c =
    let x = c.args.x.now in
    let h = c.requires.exchange.lawful in
    rest_fits (kept x.t1_low -ℤ kept c.args.allowance) c.min.result x.distance
    (start_small x.t1_low c.args.allowance h.t1_low c.requires.from_zero c.requires.at_most_a_second)
    (lesser x.t2 x.t3 c.min.result h.t2 h.t3 c.min.ensures.value).1 h.distance

pub overflow_sub-result-2 : goal.overflow_sub-result-2
overflow_sub-result-2 c =
    let x = c.args.x.now in
    let h = c.requires.exchange.lawful in
    less_fits (kept x.t1_low -ℤ kept c.args.allowance) c.min.result x.distance
    (start_small x.t1_low c.args.allowance h.t1_low c.requires.from_zero c.requires.at_most_a_second)
    (lesser x.t2 x.t3 c.min.result h.t2 h.t3 c.min.ensures.value).1 h.distance

pub returns-clause-exact : goal.returns-clause-exact
returns-clause-exact c =
    let x = c.args.x.now in
    let h = c.requires.exchange.lawful in
    let min = lesser x.t2 x.t3 c.min.result h.t2 h.t3 c.min.ensures.value in
    let place = start_is x.t1_low c.args.allowance h.t1_low c.requires.from_zero c.requires.at_most_a_second in
    let small = start_small x.t1_low c.args.allowance h.t1_low c.requires.from_zero c.requires.at_most_a_second in
    same_mark (kept_place _ small ∙ place)
    (less_is (kept x.t1_low -ℤ kept c.args.allowance) c.min.result x.distance small min.1 h.distance
    ∙ rw (place, min.0) refl)

pub returns-clause-range : goal.returns-clause-range
returns-clause-range c =
    subst IsWithinRange (sym (returns-clause-exact c))
    (low_range c.args.x.now c.args.allowance c.requires.exchange c.requires.from_zero c.requires.at_most_a_second)
