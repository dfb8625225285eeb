-- What is read of an input that is read whole is what its bytes give.
use Rattle.report.proofs.Common.{◌≡◌, ◌≤◌, ◌⊎◌, ℕ, List, length, Option, Result, Ok, Err, refl, IfSome, Input, RunFault, ReadsWhole, IsInputFault, IsFromOutside, Reads, or_fault, whole_read, arith}
use Rattle.std.proofs.lemmas.Bool.{le-ltb}

module _ {A B F : Type 0} (shown : A → B) (limit : ℕ) (input : Input) (fault_of : F → RunFault)
    (said : List ℕ → Result B F) where
  -- what is told of the bytes
  abbrev told : List ℕ → Result B RunFault
  told bytes = whole_read limit input (λ text. or_fault fault_of (said text)) bytes

  -- an input within the limit
  not_long : (bytes : List ℕ) → length bytes ≤ limit → told bytes ≡ or_fault fault_of (said bytes)
  unfolding whole_read
  not_long bytes short = rw (le-ltb limit (length bytes) short) refl

  -- it couldn't be read whole
  pub input_unread : (known : Option (List ℕ)) (fault : RunFault) → IsInputFault input fault →
      IfSome known (λ bytes. ReadsWhole bytes limit (Err fault)) →
      IfSome known (λ bytes. Reads shown (told bytes) (Err fault))
  unfolding whole_read
  input_unread known fault same whole = grind arith

  -- it was read
  pub input_is_read : (known : Option (List ℕ)) (read : List ℕ) (value : A) →
      IfSome known (λ bytes. ReadsWhole bytes limit (Ok read)) → said read ≡ Ok (shown value) →
      IfSome known (λ bytes. Reads shown (told bytes) (Ok value))
  input_is_read known read value whole exact = grind (arith, not_long, or_fault)

  -- it is refused
  pub input_refused : (known : Option (List ℕ)) (read : List ℕ) (fault : RunFault) →
      IfSome known (λ bytes. ReadsWhole bytes limit (Ok read)) →
      IsFromOutside fault ⊎ (or_fault fault_of (said read) ≡ Err fault) →
      IfSome known (λ bytes. Reads shown (told bytes) (Err fault))
  input_refused known read fault whole exact = grind (arith, not_long, or_fault)
