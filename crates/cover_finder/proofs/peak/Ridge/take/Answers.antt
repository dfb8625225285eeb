use Rattle.std.proofs.Common.{◌≡◌, ◌-◌, ◌∙◌, ap₂, arith, ◌≤ℤ◌, ℤ, subst, length, refl, to_z, of_z}
use Rattle.cover_finder.proofs.Ridges.{peaks_kept, peaks_more}
use Rattle.cover_finder.specs.Ridge.{height_of}
use Rattle.cover_finder.specs.Common.{IsWithinRange}
use Rattle.cover_finder.specs.declared.peak.Numbered.{Numbered}
use Rattle.lemma_base.proofs.Int.{w128_keeps}
use mir.Syntax.{w128}
use Rattle.cover_finder.proofs.peak.Ridge.take.Goals as goal

place_kept : (one : Numbered) → IsWithinRange one.mark → to_z w128 (of_z w128 one.mark.place) ≡ one.mark.place
place_kept one range = w128_keeps one.mark.place (omega (arith, range.place))

pub returns-in_ok-push : goal.returns-in_ok-push
returns-in_ok-push c drift rate marks from to k from' to' is here with_one none_behind = record {
  drift_is = is.drift_is;
  rate_is = is.rate_is;
  peaks = rw c.in_ok-push.ensures.items
      (peaks_more drift rate marks from to k from' to' c.args.self.now.peaks.items is.peaks c.args.one here with_one
      none_behind _ (place_kept c.args.one c.requires)
      (w128_keeps c.height_of-height.result (omega (arith, c.height_of-height.ensures.in_range))
      ∙ c.height_of-height.ensures.exact ∙ ap₂ (λ d r. height_of d r c.args.one.mark) is.drift_is is.rate_is) refl
      (λ last at.
      rw (w128_keeps c.height_of-height.result (omega (arith, c.height_of-height.ensures.in_range)))
      (rw (w128_keeps c.height_of-height.result (omega (arith, c.height_of-height.ensures.in_range)))
      at (c.if-is_higher.ensures.higher refl last (rw c.as_slice.ensures.value at)))));
}

pub returns-else-is_higher : goal.returns-else-is_higher
returns-else-is_higher c drift rate marks from to k from' to' is here with_one none_behind =
    let peaks = c.args.self.now.peaks.items in
    let low = rw c.as_slice.ensures.value at (c.if-is_higher.ensures.no_higher (λ is_true. cc)) in record {
      drift_is = is.drift_is;
      rate_is = is.rate_is;
      peaks = peaks_kept drift rate marks from to k from' to' peaks is.peaks c.args.one here with_one none_behind
          (length peaks - 1) low.0 low.1
          (subst (λ (z : ℤ). z ≤ℤ low.0.height)
          (w128_keeps c.height_of-height.result (omega (arith, c.height_of-height.ensures.in_range))
          ∙ c.height_of-height.ensures.exact ∙ ap₂ (λ d r. height_of d r c.args.one.mark) is.drift_is is.rate_is)
          low.2);
    }
