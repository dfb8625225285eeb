-- Readings in steps: the first step that fails gives the fault.
use Rattle.std.specs.Prelude.{◌≡◌, ◌⊎◌, Bool, true, false, Option, Some, None, Result, Ok, Err, MatchResult}

-- the rest of a reading, if this value is there; this fault if it isn't
abbrev pub given : {A B E : Type 0} → E → Option A → (A → Result B E) → Result B E
given fault None rest = Err fault
given fault (Some value) rest = rest value

-- the rest of a reading, if this holds; this fault if it doesn't
abbrev pub asked : {B E : Type 0} → E → Bool → Result B E → Result B E
asked fault false rest = Err fault
asked fault true rest = rest

-- the rest of a reading, or the fault that there was
abbrev pub after : {A B E : Type 0} → Result A E → (A → Result B E) → Result B E
after (Err fault) rest = Err fault
after (Ok value) rest = rest value

-- the answer is the one that is defined, value or fault
abbrev pub Gives : {A B E : Type 0} → Result A E → (A → B) → Result B E → Type 0
Gives answer shown defined =
    MatchResult answer (λ value. defined ≡ Ok (shown value)) (λ fault. defined ≡ Err fault)

-- the same, or that memory ran out
abbrev pub Answers : {A B E : Type 0} → E → Result A E → (A → B) → Result B E → Type 0
Answers memory answer shown defined =
    MatchResult answer (λ value. defined ≡ Ok (shown value))
    (λ fault. (fault ≡ memory) ⊎ (defined ≡ Err fault))
