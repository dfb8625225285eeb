use Rattle.true_time.proofs.Common.{◌≡◌, All, None}
use Rattle.true_time.proofs.found_hulls.no_hulls.Given as goal

abbrev pub invariant-loop : goal.invariant-loop
invariant-loop l = All (λ hull. hull ≡ None) l.hulls.items
