use Rattle.span_cover.proofs.Common.{◌≡◌, ◌∙◌, ◌++◌, ◌∷◌, [], None, Some, refl, sym, ap, subst, to_z, of_z, arith, w128, ints, Interval, Gathered, best_interval}
use Rattle.span_cover.proofs.GatheringSteps.{one_taken, entry_known, same_server, first_sample}
use Rattle.span_cover.proofs.gathering.BestSamples.take.Goals as goal
use Rattle.span_cover.proofs.gathering.BestSamples.take.Goals.{in-Some, in-None}

pub returns : goal.returns
returns c = λ samples p q ppb gathered.
    let s = c.args.sample.now in
    let next = c.match-self-server.interval in
    let before = subst (Gathered samples p q ppb) (sym c.self.view_is) gathered in
    let from : to_z w128 (of_z w128 c.self.inside.p) ≡ p = omega (arith, ints, before.from) in
    let to : to_z w128 (of_z w128 c.self.inside.q) ≡ q = omega (arith, ints, before.to) in
    let rate : c.self.inside.drift_ppb ≡ ppb = before.rate in
    let taken = λ (is : best_interval (samples ++ s ∷ []) s.server p q ppb ≡ Some next).
    one_taken samples p q ppb s _ _ before c.requires.server next is refl in
    elim c.match-self-server.branch [
      | in-Some w ↦
          let so_far = w.in-Some.so_far in
          let low : to_z w128 (of_z w128 so_far.lo) ≡ so_far.lo = omega (arith, ints) in
          let high : to_z w128 (of_z w128 so_far.hi) ≡ so_far.hi = omega (arith, ints) in
          let lo : next.lo ≡ w.greater_low.result =
          ap (λ (i : Interval). i.lo) w.interval-is ∙ omega (arith, ints) in
          let hi : next.hi ≡ w.lesser_high.result =
          ap (λ (i : Interval). i.hi) w.interval-is ∙ omega (arith, ints) in
          taken (same_server s.server p q ppb samples s refl so_far next
          (entry_known samples p q ppb _ before s.server c.requires.server _ None w.in-Some.is)
          (lo ∙ rw (low, from, to, rate) at w.greater_low.ensures)
          (hi ∙ rw (high, from, to, rate) at w.lesser_high.ensures))
      | in-None w ↦
          taken (first_sample s.server p q ppb samples s refl
          (entry_known samples p q ppb _ before s.server c.requires.server _ None w.in-None.is)
          ∙ ap Some (sym (w.interval-is ∙ rw (from, to, rate) at w.piece_interval-interval.ensures)))
    ]
