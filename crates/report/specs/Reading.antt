-- What reading an input gives: what its bytes call for, but for what fails outside.
use Rattle.std.specs.Prelude.{◌≡◌, ◌⊎◌, ℕ, List, length, nat_lt, Result, Ok, Err, if◌then◌else◌}
use Rattle.report.specs.declared.fault.Input.{Input}
use Rattle.report.specs.declared.fault.RunFault.{RunFault}
use Rattle.report.specs.declared.fault.RunFault.TheVariants.{TooBig, Device, Memory}

-- what the bytes of an input give that is read whole, with this limit and this meaning
unfoldable pub whole_read : {A : Type 0} → ℕ → Input → (List ℕ → Result A RunFault) → List ℕ →
    Result A RunFault
whole_read limit input meaning bytes =
    if nat_lt limit (length bytes) then Err (TooBig input) else meaning bytes

-- a fault of what an input says is the run's
abbrev pub or_fault : {A F : Type 0} → (F → RunFault) → Result A F → Result A RunFault
or_fault fault_of (Ok value) = Ok value
or_fault fault_of (Err fault) = Err (fault_of fault)

-- a fault that says nothing about the inputs' bytes
abbrev pub IsFromOutside : RunFault → Type 0
IsFromOutside Memory = Unit {0}
IsFromOutside (Device input) = Unit {0}
IsFromOutside _ = ⊥

-- The answer is what is expected, but for a fault from outside.
abbrev pub Reads : {A B : Type 0} → (A → B) → Result B RunFault → Result A RunFault → Type 0
Reads shown expected (Ok value) = expected ≡ Ok (shown value)
Reads shown expected (Err fault) = IsFromOutside fault ⊎ (expected ≡ Err fault)
