-- What reading a whole input takes of its feed.
use Rattle.std.specs.Prelude.{◌≡◌, ◌+◌, ◌≤◌, ◌<◌, ℕ, List, length, Bool, true, false, Result, Ok, Err}
use Rattle.report.specs.Common.{Consumes, FeedState}
use Rattle.report.specs.declared.fault.Input.{Input}
use Rattle.report.specs.declared.fault.Input.TheVariants as inputs
use Rattle.report.specs.declared.fault.RunFault.{RunFault}
use Rattle.report.specs.declared.fault.RunFault.TheVariants.{TooBig, Device, Memory}

-- All bytes were read, no more than the limit, or the input is too big: it has more. That a device
-- failed and that memory was refused say nothing about its bytes.
abbrev pub ReadsWhole : List ℕ → ℕ → Result (List ℕ) RunFault → Type 0
ReadsWhole bytes limit (Ok read) = (read ≡ bytes) × (length bytes ≤ limit)
ReadsWhole bytes limit (Err (TooBig input)) = limit < length bytes
ReadsWhole bytes limit (Err fault) = Unit {0}

-- These bytes were taken of a feed, from its front, and no more by its count.
pub record Takes (taken : List ℕ) (before after : FeedState) : Type 0 where
  pub consumed : Consumes before.remaining after.remaining taken
  pub counted : after.taken ≤ before.taken + length taken

-- What was read of an input that is too big is beyond the limit.
abbrev pub IsBeyond : ℕ → List ℕ → RunFault → Type 0
IsBeyond limit read (TooBig input) = limit < length read
IsBeyond limit read fault = Unit {0}

-- how many bytes past its limit are taken of the first input if the second one is too big: one if
-- they are the same
abbrev pub bytes_past : Input → Input → ℕ
bytes_past inputs.Claim inputs.Claim = 1
bytes_past inputs.Capture inputs.Capture = 1
bytes_past inputs.Certificate inputs.Certificate = 1
bytes_past inputs.Refutation inputs.Refutation = 1
bytes_past inputs.Sums inputs.Sums = 1
bytes_past inputs.Times inputs.Times = 1
bytes_past which input = 0

-- how many bytes are taken at most of an input that may have this many: one more only if the answer
-- is that this input is too big
abbrev pub most_read : {X : Type 0} → Input → ℕ → Result X RunFault → ℕ
most_read which limit (Err (TooBig input)) = limit + bytes_past which input
most_read which limit result = limit

-- the faults of reading an input
abbrev pub IsInputFault : Input → RunFault → Type 0
IsInputFault which (TooBig input) = input ≡ which
IsInputFault which (Device input) = input ≡ which
IsInputFault which Memory = Unit {0}
IsInputFault which _ = ⊥

-- whether reading an input failed in its device
abbrev pub read_failed : {X : Type 0} → Result X RunFault → Bool
read_failed (Err (Device input)) = true
read_failed result = false
