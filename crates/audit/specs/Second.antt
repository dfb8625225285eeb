-- The second input of a question: none, a certificate of either form, a refutation or readings.
use Rattle.std.specs.Prelude.{ℕ, List, Option, IfSome, Some, Result, IsOk, Ok}
use Rattle.audit.specs.Common.{option_map, result_map_both, AnyData, RefutationData, ReadingData, certificate_read, max_certificate, most_read, max_refutation, refutation_read, max_times, times_read, RunFault, Certificate, Refutation, Times, TooBig, Device, Memory}
use Rattle.report.specs.declared.fault.Input.TheVariants as inputs

-- which second input a question has
pub data SecondKind : Type 0 where
  no_second : SecondKind
  certificate_second : SecondKind
  refutation_second : SecondKind
  times_second : SecondKind

-- what a second input says
pub data SecondData : Type 0 where
  nothing_said : SecondData
  certificate_said : AnyData → SecondData
  refutation_said : RefutationData → SecondData
  times_said : List ReadingData → SecondData

-- what the bytes of a second input say, as far as they are known
abbrev pub second_read : SecondKind → Option (List ℕ) → Option (Result SecondData RunFault)
second_read no_second known = Some (Ok nothing_said)
second_read certificate_second known =
    option_map (λ bytes. result_map_both certificate_said (λ fault. fault) (certificate_read bytes))
    known
second_read refutation_second known =
    option_map (λ bytes. result_map_both refutation_said (λ fault. fault) (refutation_read bytes))
    known
second_read times_second known =
    option_map (λ bytes. result_map_both times_said (λ fault. fault) (times_read bytes)) known

-- The bytes of the second input, if they are known, say what is asked for.
abbrev pub HasSecond : SecondKind → Option (List ℕ) → Type 0
HasSecond kind known = IfSome (second_read kind known) IsOk

-- how many bytes are taken of the second input at most in a run that comes to this answer: one past
-- the limit only if the answer is that this input is too big
abbrev pub most_second : {A : Type 0} → SecondKind → Result A RunFault → ℕ
most_second no_second answer = 0
most_second certificate_second answer = most_read inputs.Certificate max_certificate answer
most_second refutation_second answer = most_read inputs.Refutation max_refutation answer
most_second times_second answer = most_read inputs.Times max_times answer

-- the faults of reading it
abbrev pub IsOfSecond : RunFault → Type 0
IsOfSecond (Certificate fault) = Unit {0}
IsOfSecond (Refutation fault) = Unit {0}
IsOfSecond (Times fault) = Unit {0}
IsOfSecond (TooBig inputs.Certificate) = Unit {0}
IsOfSecond (TooBig inputs.Refutation) = Unit {0}
IsOfSecond (TooBig inputs.Times) = Unit {0}
IsOfSecond (Device inputs.Certificate) = Unit {0}
IsOfSecond (Device inputs.Refutation) = Unit {0}
IsOfSecond (Device inputs.Times) = Unit {0}
IsOfSecond Memory = Unit {0}
IsOfSecond _ = ⊥
