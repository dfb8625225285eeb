use Rattle.feasibility.proofs.Common.{◌≡◌, rules, subst, sym, of_z, to_z, w128, IsPossible}
use Rattle.feasibility.proofs.DriftTest.{possible_to}
use Rattle.feasibility.proofs.KeptMarkLists.{with_last}
use Rattle.feasibility.proofs.kept_marks.KeptMarks.add.Goals as goal

pub returns-clause-possible : goal.returns-clause-possible
returns-clause-possible c =
    let reading : to_z w128 (of_z w128 c.args.claim.now.reading) ≡ c.args.claim.now.reading = search rules in
    sym (possible_to c.args.claim.now.reading c.args.exchange.now
    (subst (λ allowance. IsPossible allowance c.args.exchange.now) reading
    (c.is_possible.ensures.0 c.if-not-is_possible.false)))

pub returns-clause-low_range : goal.returns-clause-low_range
returns-clause-low_range c = λ _.
    with_last c.args.self.now.lows.items c.low_mark.result _ c.in_ok-push.ensures.items c.requires.low_range
    c.low_mark.ensures.range

pub returns-clause-high_range : goal.returns-clause-high_range
returns-clause-high_range c = λ _.
    with_last c.args.self.now.highs.items c.high_mark.result _ c.in_ok-push-2.ensures.items c.requires.high_range
    c.high_mark.ensures.range
