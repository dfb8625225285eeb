use Rattle.finder.proofs.Common.{ℕ, ◌-◌, ◌<◌, length, ap, ◌∙◌, All-filter, data_of, holds, has_say}
use Rattle.finder.proofs.HullWithout.{hull_said}
use Rattle.finder.proofs.neediest.hull_without.Goals as goal

pub piece_hull-requires-clause-listed : goal.piece_hull-requires-clause-listed
piece_hull-requires-clause-listed c =
    let claim = data_of c.args.claim.now in
    rw (
      c.as_slice-2.ensures.value,
      c.as_slice-3.ensures.value,
      c.parts_without-parts.ensures.exact,
      c.as_slice.ensures.value,
    )
    (All-filter (has_say claim.groups (holds c.args.cover)) (λ part. part.server < length claim.groups) _
    c.parts_over-all.ensures.listed)

pub returns : goal.returns
returns c = record {
  exact = λ samples tabled.
      (let claim = data_of c.args.claim.now in
      rw c.as_slice-3.ensures.value at c.piece_hull.ensures
      ∙ hull_said samples claim (holds c.args.cover) _ c.as_slice-2.result.now c.saturating_sub-false_max.result
      (rw (c.as_slice.ensures.value, c.parts_over-all.ensures.exact samples tabled) at
      (c.as_slice-2.ensures.value ∙ c.parts_without-parts.ensures.exact))
      (c.saturating_sub-false_max.ensures ∙ ap (λ (n : ℕ). claim.false_max - n) c.count.ensures.exact));
}
