use Rattle.span_cover.proofs.Common.{◌≡◌, drop, best_from, merit}
use Rattle.span_cover.proofs.choice.first_best.Given as goal

abbrev pub invariant-loop-number : goal.invariant-loop-number
invariant-loop-number l =
    l.best ≡ best_from (λ s. merit l.fn.side s l.fn.p l.fn.q l.fn.drift_ppb) l.fn.server l.number
    (drop l.number l.samples)
