use Rattle.finder.proofs.Common.{◌≡◌, ℕ, ◌+◌, ◌-◌, pos, ◌+ℤ◌, arith, unsigned_abs, to_z, of_z, rules, ap, ◌∙◌, w128, ints, billion, w128_keeps, w128_keeps_difference}
use Rattle.finder.proofs.GroupLeeway.{most_later, most_earlier}
use Rattle.finder.proofs.leeway.most_under.Goals as goal
use Rattle.finder.proofs.leeway.most_under.Goals.{then-reading-mark, else-reading-mark}

pub returns : goal.returns
returns c error =
    let distance = c.unsigned_abs-distance.ensures.value
    ∙ ap unsigned_abs (w128_keeps_difference c.args.mark.place c.args.reading (omega arith) (omega arith)) in
    let change : to_z w128 c.change.result ≡ pos c.change.result = search rules in
    let sum : to_z w128 (of_z w128 (to_z w128 (of_z w128 c.args.mark.error) +ℤ to_z w128 c.change.result))
    ≡ c.args.mark.error +ℤ pos c.change.result =
    rw (w128_keeps c.args.mark.error (omega arith), change)
    (w128_keeps (c.args.mark.error +ℤ pos c.change.result) (omega (arith, ints))) in
    let place = w128_keeps c.args.mark.place (omega arith) in
    let reading = w128_keeps c.args.reading (omega arith) in
    elim c.if-reading-mark.branch [
      | then-reading-mark w ↦
          let test = rw (reading, place) at w.if-reading-mark.true in
          most_later c.args.drift_ppb c.requires.rate c.args.reading c.args.mark error _ c.change.result
          c.if-reading-mark.parts c.unsigned_abs-distance.result sum c.change.ensures.exact distance
          (w.parts-is ∙ ap (λ (r : ℕ). billion - r) c.from-rate.ensures) (grind (arith, ints))
      | else-reading-mark w ↦
          let test = rw (reading, place) at w.if-reading-mark.false in
          most_earlier c.args.drift_ppb c.requires.rate c.args.reading c.args.mark error _ c.change.result
          c.if-reading-mark.parts c.unsigned_abs-distance.result sum c.change.ensures.exact distance
          (w.parts-is ∙ ap (λ (r : ℕ). billion + r) c.from-rate.ensures) (grind (arith, ints))
    ]
