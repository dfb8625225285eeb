-- Why a refutation is refused.
use Rattle.std.specs.Prelude.{ℕ, Result}
use Rattle.json_text.specs.Step as step
use Rattle.certificate.specs.declared.refutation_fault.RefutationFault.{RefutationFault}
use Rattle.certificate.specs.declared.refutation_fault.RefutationFault.TheVariants.{Json, Shape, Memory}

-- from 1, in the order in which they're looked for
abbrev pub number_of : RefutationFault → ℕ
number_of Json = 1
number_of Shape = 2
number_of Memory = 3

-- the answer is the one that is defined, value or fault, or Memory
abbrev pub Answers : {A B : Type 0} →
    Result A RefutationFault → (A → B) → Result B RefutationFault → Type 0
Answers answer shown defined = step.Answers Memory answer shown defined
