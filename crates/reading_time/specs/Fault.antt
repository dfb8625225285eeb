-- Why a file of readings is refused.
use Rattle.std.specs.Prelude.{◌≡◌, ℕ, ◌⊎◌, Result, Ok, Err, MatchResult}
use Rattle.reading_time.specs.declared.fault.TimesFault.{TimesFault}
use Rattle.reading_time.specs.declared.fault.TimesFault.TheVariants.{Time, TooMany, Memory}

-- the number of each fault
abbrev pub number_of : TimesFault → ℕ
number_of (Time line) = 1
number_of TooMany = 2
number_of Memory = 3

-- the answer is the one that is defined, value or fault, or Memory
abbrev pub Answers : {A B : Type 0} → Result A TimesFault → (A → B) → Result B TimesFault → Type 0
Answers answer shown defined =
    MatchResult answer (λ value. defined ≡ Ok (shown value))
    (λ fault. (fault ≡ Memory) ⊎ (defined ≡ Err fault))
