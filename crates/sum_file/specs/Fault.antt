-- Why a file of sums is refused.
use Rattle.std.specs.Prelude.{◌≡◌, ◌⊎◌, Result, Ok, Err, MatchResult}
use Rattle.sum_file.specs.declared.fault.SumFault.{SumFault}
use Rattle.sum_file.specs.declared.fault.SumFault.TheVariants.{Memory}

-- the answer is the one that is defined, value or fault, or Memory
abbrev pub Answers : {A B : Type 0} → Result A SumFault → (A → B) → Result B SumFault → Type 0
Answers answer shown defined =
    MatchResult answer (λ value. defined ≡ Ok (shown value))
    (λ fault. (fault ≡ Memory) ⊎ (defined ≡ Err fault))
