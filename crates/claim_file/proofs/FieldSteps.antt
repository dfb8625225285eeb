-- A reading in steps, as the code takes them: each step is a call that finds a value or doesn't.
use Rattle.claim_file.proofs.Common.{◌≡◌, Option, Result, Ok, Err, option_map, sym, ap, ◌∙◌, inl, inr, given, ClaimFault, Memory, Answers, rules}
use Rattle.std.specs.Option.{ok_or}
use Rattle.std.specs.Result.{IsErr, IsErrAnd}

pub stops_shown : {A B C E : Type 0} (fault : E) {e : E} (shown : A → B) (found : Option A) {defined : Option B}
    (rest : B → Result C E) →
    option_map shown found ≡ defined → Err e ≡ ok_or found fault → given fault defined rest ≡ Err e
stops_shown fault shown found rest kept is = search rules

-- what the function answers then
pub answers_fault : {A B : Type 0} (shown : A → B) {defined : Result B ClaimFault} {e : ClaimFault}
    (answer : Result A ClaimFault) → IsErr answer × IsErrAnd answer (λ f. f ≡ e) → defined ≡ Err e →
    Answers answer shown defined
answers_fault shown (Ok x) (err, is) stopped = cc
answers_fault shown (Err f) (err, is) stopped = inr (stopped ∙ ap Err (sym is))

pub answers_memory : {A B : Type 0} (shown : A → B) (defined : Result B ClaimFault) (answer : Result A ClaimFault) →
    IsErr answer × IsErrAnd answer (λ f. f ≡ Memory) → Answers answer shown defined
answers_memory shown defined (Ok x) (err, is) = cc
answers_memory shown defined (Err f) (err, is) = inl is
