-- The program's exit status for an answer.
use Rattle.std.specs.Prelude.{ℕ, Result, Ok, Err}
use Rattle.report.specs.declared.fault.Outcome.{Outcome}
use Rattle.report.specs.declared.fault.Outcome.TheVariants.{Yes, No}
use Rattle.report.specs.declared.fault.RunFault.{RunFault}
use Rattle.report.specs.declared.fault.RunFault.TheVariants.{Device, Write, Memory}

-- 0 yes, 1 no, 2 an input is refused, 3 out of memory, 4 a device failed
abbrev pub status_of : Result Outcome RunFault → ℕ
status_of (Ok Yes) = 0
status_of (Ok No) = 1
status_of (Err Memory) = 3
status_of (Err (Device input)) = 4
status_of (Err (Write sent)) = 4
status_of (Err refusal) = 2

-- of a refused command line
abbrev pub refused_status : ℕ
refused_status = 5
