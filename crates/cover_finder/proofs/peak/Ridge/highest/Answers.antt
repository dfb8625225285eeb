use Rattle.std.proofs.Common.{◌≡◌, ◌-◌, ◌+◌, ◌∙◌, ap, ap₂, arith, refl, sym, Some}
use Rattle.std.proofs.lemmas.Int.{to_z-of_z}
use Rattle.std.proofs.lemmas.Option.{slice_get-get_or}
use mir.Syntax.{w128}
use Rattle.lemma_base.proofs.Int.{w128_keeps}
use Rattle.cover_finder.specs.Ridge.{level_at}
use Rattle.cover_finder.proofs.Ridges.{highest_upto, none_upto}
use Rattle.cover_finder.proofs.peak.Ridge.highest.Goals as goal

pub returns-then-count-eq0-clause-exact : goal.returns-then-count-eq0-clause-exact
returns-then-count-eq0-clause-exact c drift rate marks is =
    none_upto drift rate marks c.args.self.now.peaks.items is.peaks c.args.place c.count_upto-count.result
    (rw (to_z-of_z w128 c.args.place c.ranges.place) at (c.count_upto-count.ensures.count is.peaks.rise))
    c.if-count-eq0.true

pub returns-clause-exact : goal.returns-clause-exact
returns-clause-exact c drift rate marks is =
    let peaks = c.args.self.now.peaks.items in
    let count = c.count_upto-count.result in
    let last = c.index-peak.result.now in
    let next : count ≡ count - 1 + 1 = omega arith in
    highest_upto drift rate marks peaks is.peaks c.args.place count
    (rw (to_z-of_z w128 c.args.place c.ranges.place) at (c.count_upto-count.ensures.count is.peaks.rise))
    c.args.far (omega (arith, c.args.self.now.some, is.rate_is)) (count - 1) last next
    (slice_get-get_or peaks (count - 1) last (omega arith) ∙ ap Some (sym c.index-peak.ensures))
    _ refl
    (to_z-of_z w128 c.level_at.result (record { sfits = c.level_at.type_inv }) ∙ c.level_at.ensures.exact
    ∙ ap₂ (λ f h. level_at c.args.self.now.drift c.args.self.now.rate f h) (to_z-of_z w128 c.args.far c.ranges.far)
    (w128_keeps last.height (omega (arith, last.in_range)))
    ∙ ap₂ (λ d r. level_at d r c.args.far last.height) is.drift_is is.rate_is)
