use Rattle.error_marks.proofs.Common.{◌+ℤ◌, ◌∙◌, sym, subst, refl, rest_fits, more_fits, more_is, IsWithinRange}
use Rattle.error_marks.proofs.Bound.{kept, same_mark, end_small, end_is, greater, high_range, kept_place}
use Rattle.error_marks.proofs.bounds.high_mark.Goals as goal

pub overflow_sub-result : goal.overflow_sub-result
overflow_sub-result c =
    let x = c.args.x.now in
    let h = c.requires.exchange.lawful in
    rest_fits (kept x.t4_high +ℤ kept c.args.allowance) c.max.result x.distance
    (end_small x.t4_high c.args.allowance h.t4_high c.requires.from_zero c.requires.at_most_a_second)
    (greater x.t2 x.t3 c.max.result h.t2 h.t3 c.max.ensures.value).1 h.distance

pub overflow_add-result : goal.overflow_add-result
overflow_add-result c =
    let x = c.args.x.now in
    let h = c.requires.exchange.lawful in
    more_fits (kept x.t4_high +ℤ kept c.args.allowance) c.max.result x.distance
    (end_small x.t4_high c.args.allowance h.t4_high c.requires.from_zero c.requires.at_most_a_second)
    (greater x.t2 x.t3 c.max.result h.t2 h.t3 c.max.ensures.value).1 h.distance

pub returns-clause-exact : goal.returns-clause-exact
returns-clause-exact c =
    let x = c.args.x.now in
    let h = c.requires.exchange.lawful in
    let max = greater x.t2 x.t3 c.max.result h.t2 h.t3 c.max.ensures.value in
    let place = end_is x.t4_high c.args.allowance h.t4_high c.requires.from_zero c.requires.at_most_a_second in
    let small = end_small x.t4_high c.args.allowance h.t4_high c.requires.from_zero c.requires.at_most_a_second in
    same_mark (kept_place _ small ∙ place)
    (more_is (kept x.t4_high +ℤ kept c.args.allowance) c.max.result x.distance small max.1 h.distance
    ∙ rw (place, max.0) refl)

pub returns-clause-range : goal.returns-clause-range
returns-clause-range c =
    subst IsWithinRange (sym (returns-clause-exact c))
    (high_range c.args.x.now c.args.allowance c.requires.exchange c.requires.from_zero c.requires.at_most_a_second)
