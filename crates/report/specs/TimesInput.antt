-- What the bytes of a file of readings give.
use Rattle.std.specs.Prelude.{ℕ, List, Result}
use Rattle.report.specs.Common.{ReadingData, times_of}
use Rattle.report.specs.declared.fault.Input.TheVariants as inputs
use Rattle.report.specs.declared.fault.RunFault.{RunFault}
use Rattle.report.specs.declared.fault.RunFault.TheVariants.{Times, TooBig, Device, Memory}
use Rattle.report.specs.Reading.{or_fault, whole_read}

-- the greatest length of a file of readings, in bytes
abbrev pub max_times : ℕ
max_times = 33554432

-- what the bytes of a file of readings give
abbrev pub times_read : List ℕ → Result (List ReadingData) RunFault
times_read bytes = whole_read max_times inputs.Times (λ text. or_fault Times (times_of text)) bytes

-- the faults of reading one
abbrev pub IsOfTimes : RunFault → Type 0
IsOfTimes (Times fault) = Unit {0}
IsOfTimes (TooBig inputs.Times) = Unit {0}
IsOfTimes (Device inputs.Times) = Unit {0}
IsOfTimes Memory = Unit {0}
IsOfTimes _ = ⊥
