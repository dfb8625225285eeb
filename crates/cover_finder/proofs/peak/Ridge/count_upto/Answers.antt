use Rattle.std.proofs.Common.{int_le, of_calls, rules, subst, sym}
use Rattle.std.proofs.lemmas.Fn.{always_returns_same}
use Rattle.cover_finder.specs.Ridge.{PeaksRise}
use Rattle.cover_finder.proofs.Ridges.{count_upto_is, parted}
use Rattle.cover_finder.proofs.peak.Ridge.count_upto.Goals as goal

pub returns-clause-count : goal.returns-clause-count
returns-clause-count c rise =
    let place = c.args.place in
    let point = c.partition_point.ensures.partitioned (λ peak. int_le peak.place place)
    (always_returns_same _ _ _ (λ a r f k. search (rules, of_calls)))
    (parted c.deref.result.now place (subst PeaksRise (sym c.deref.ensures.value) rise)) in
    rw (sym c.deref.ensures.value) (count_upto_is c.deref.result.now place c.partition_point.result point)
