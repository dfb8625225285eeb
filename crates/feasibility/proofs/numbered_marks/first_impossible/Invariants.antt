use Rattle.feasibility.proofs.Common.{ℕ, ◌<◌, map, data_of as claim_data, IsImpossibleAt}
use Rattle.feasibility.proofs.numbered_marks.first_impossible.Given as goal

abbrev pub invariant-loop-number : goal.invariant-loop-number
invariant-loop-number g l =
    (k : ℕ) → k < l.number → ¬ (IsImpossibleAt (claim_data l.claim) (map g.X.ToExchange.shown l.exchanges) l.group k)
