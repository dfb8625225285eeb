-- The status of an outcome.
use Rattle.std.proofs.Common.{rules}
use Rattle.audit.proofs.Common.{◌≡◌, ℕ, Result, Ok, arith, IfOk, Outcome, RunFault, status_of}

-- an answer with the status of an outcome is that outcome
outcome_is : (answer : Result Outcome RunFault) (outcome : Outcome) →
    status_of answer ≡ status_of (Ok outcome) → answer ≡ Ok outcome
outcome_is x0 o same = grind (arith)

-- what an outcome shows, by its status
pub shown_by_status : (P : Outcome → Type 0) (answer : Result Outcome RunFault) (status : ℕ) →
    status ≡ status_of answer → IfOk answer P → (outcome : Outcome) → status ≡ status_of (Ok outcome) → P outcome
shown_by_status P answer status is shows outcome told = search (rules, outcome_is)
