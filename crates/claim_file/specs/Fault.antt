-- Why a claim is refused.
use Rattle.std.specs.Prelude.{◌≡◌, ℕ, ◌⊎◌, Result, Ok, Err, MatchResult}
use Rattle.claim_file.specs.declared.fault.ClaimFault.{ClaimFault}
use Rattle.claim_file.specs.declared.fault.ClaimFault.TheVariants.{Json, Field, Address, Time, Range, RepeatedServer, Memory, Groups}

-- the number of each fault
abbrev pub number_of : ClaimFault → ℕ
number_of Json = 1
number_of (Field code) = 2
number_of Address = 3
number_of Time = 4
number_of Range = 5
number_of RepeatedServer = 6
number_of Memory = 7
number_of Groups = 8

-- the answer is the one that is defined, value or fault, or Memory
abbrev pub Answers : {A B : Type 0} → Result A ClaimFault → (A → B) → Result B ClaimFault → Type 0
Answers answer shown defined =
    MatchResult answer (λ value. defined ≡ Ok (shown value))
    (λ fault. (fault ≡ Memory) ⊎ (defined ≡ Err fault))
