use Rattle.finder.proofs.Common.{true, length, map, take_all, refl, sym, ap, subst, All, data_of as claim_data, Course, IsCover, IsHeldAtAll, holds_false, samples_of}
use Rattle.checker.specs.Course.{Fits}
use Rattle.feasibility.specs.LeastCovers.{AreLeastCovers}
use Rattle.certificate.specs.Refutation.{data_of as refutation_data}
use Rattle.feasibility.specs.ConflictsView.{data_of}
use Rattle.finder.proofs.HeldError.{are_held, least_covers}
use Rattle.std.proofs.lemmas.List.Elements.{All-more}
use Rattle.finder.proofs.SettlementAnswer.{none_beyond, one_more_needs}
use Rattle.finder.proofs.settlement.refutation_of.Goals as goal

pub neediest_tick-requires : goal.neediest_tick-requires
neediest_tick-requires g c = record {
  tables =
      (samples_of (map g.X.ToExchange.shown c.args.exchanges.now) (claim_data c.args.claim.now), c.requires.tables);
}

pub loop-cover-preserved : goal.loop-cover-preserved
loop-cover-preserved g c =
    let claim = claim_data c.args.claim.now in
    let xs = map g.X.ToExchange.shown c.args.exchanges.now in
    record {
      held = All-more (IsHeldAtAll claim xs c.args.readings.now) c.as_slice-covers.result.now
          c.loop-cover.cover-index _ c.loop-cover-test.true c.loop-cover.invariant.held
          c.in_default-find_with_cover-2.ensures.held;
      needs = one_more_needs (samples_of xs claim) claim c.as_slice-covers.result.now c.loop-cover.cover-index _
          c.loop-cover.most c.most_with-most.result c.in_ok-neediest.neediest c.loop-cover-test.true
          c.loop-cover.invariant.needs c.most_with-most.ensures
          (c.in_ok-neediest.ensures (samples_of xs claim) c.requires.tables);
    }

pub returns-in-Some-find_refutation : goal.returns-in-Some-find_refutation
returns-in-Some-find_refutation g c =
    let claim = claim_data c.args.claim.now in
    let xs = map g.X.ToExchange.shown c.args.exchanges.now in
    let found = refutation_data c.in-Some-find_refutation.steady in
    let stands = c.refutations_without_drift_stand.ensures.stand claim xs found
    c.in-Some-find_refutation.ensures.found.accepted in
    c.refutations_are_settled.ensures claim xs found true c.args.claim.now.lawful c.requires.exchanges
    ((λ _. stands), λ _. refl)

pub returns-in-None : goal.returns-in-None
returns-in-None g c =
    let claim = claim_data c.args.claim.now in
    let xs = map g.X.ToExchange.shown c.args.exchanges.now in
    let d = data_of c.args.conflicts.now in
    let held = IsHeldAtAll claim xs c.args.readings.now in
    let same = c.as_slice-covers.ensures.value in
    let least = least_covers claim xs d c.requires.groups
    (λ is_in. c.tables_settle_covers.ensures.each claim xs d is_in c.args.claim.now.lawful c.requires.exchanges
    c.requires.groups c.requires.table) c.covers-least.result.items c.covers-least.ensures.covers
    c.covers-least.ensures.minimal c.covers-least.ensures.few c.covers-least.ensures.different
    c.covers-least.ensures.all_or_64 in
    let cover_of : (course : Course) → Fits claim xs course
    → IsCover claim xs (holds_false claim.groups course.is_false) =
    (λ course. c.false_groups_are_a_cover.ensures claim xs course c.args.claim.now.lawful c.requires.exchanges) in (
      c.in-None.ensures.none refl,
      are_held claim xs c.args.readings.now c.covers-least.result.items least cover_of _ (ap length same)
          (subst (All held) same (rw (take_all c.loop-cover.cover-index c.as_slice-covers.result.now
          c.loop-cover-test.false) at c.loop-cover.invariant.held)),
      none_beyond claim xs c.as_slice-covers.result.now (subst (AreLeastCovers claim xs) (sym same) least) cover_of
          c.args.claim.now.lawful c.requires.exchanges
          c.loop-cover.cover-index c.loop-cover.most c.if_all.result c.loop-cover-test.false
          c.loop-cover.invariant.needs c.if_all.ensures,
    )
