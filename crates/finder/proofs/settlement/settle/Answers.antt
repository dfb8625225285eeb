use Rattle.finder.proofs.Common.{◌<◌, ◌≤◌, ◌∙◌, true≢false, map, sym, subst, arith, data_of as claim_data}
use Rattle.finder.proofs.SettlementAnswer.{none_fits, settled_as, unheard}
use Rattle.finder.proofs.settlement.settle.Goals as goal

-- no course fits
pub returns-then-not-has_cover : goal.returns-then-not-has_cover
returns-then-not-has_cover g c =
    let claim = claim_data c.args.claim.now in
    let xs = map g.X.ToExchange.shown c.args.exchanges.now in
    settled_as claim xs _ (none_fits claim xs _ c.in_ok-listed.ensures
    (λ course. true≢false (sym (c.has_cover.ensures.exact.1 (c.in_ok-conflicts.ensures.covers.0 course))
    ∙ c.if-not-has_cover.true))
    (c.some_course_fits_where_a_cover_is_small.ensures claim xs c.args.claim.now.lawful c.requires.exchanges)
    (λ is_in ends. c.ends_of_all_conflicts_are_a_cover.ensures claim xs _ is_in c.in_ok-listed.ensures ends))

-- no more groups have a sample than may be false
pub returns-then-groups-claim : goal.returns-then-groups-claim
returns-then-groups-claim g c =
    let claim = claim_data c.args.claim.now in
    let xs = map g.X.ToExchange.shown c.args.exchanges.now in
    let few : c.groups_heard-groups.result ≤ c.args.claim.now.false_max = omega arith in
    settled_as claim xs _ (unheard claim xs c.requires.exchanges c.args.claim.now.lawful
    (c.few_groups_are_no_evidence.ensures claim xs)
    (c.no_evidence_gives_no_yes.ensures claim xs) c.groups_heard-groups.result
    c.groups_heard-groups.ensures few)

-- a course fits
pub settle_heard-requires-clause-heard : goal.settle_heard-requires-clause-heard
settle_heard-requires-clause-heard g c =
    subst (λ n. c.args.claim.now.false_max < n) c.groups_heard-groups.ensures c.if-groups-claim.false

pub settle_heard-requires-clause-courses : goal.settle_heard-requires-clause-courses
settle_heard-requires-clause-courses g c reading =
    c.some_course_is_observed_at_any_reading.ensures (claim_data c.args.claim.now)
    (map g.X.ToExchange.shown c.args.exchanges.now) reading c.args.claim.now.lawful c.requires.exchanges
    (c.in_ok-conflicts.ensures.covers.1 (c.has_cover.ensures.exact.0 c.if-not-has_cover.false))
