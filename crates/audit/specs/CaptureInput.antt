-- What the bytes of a capture give under a claim.
use Rattle.std.specs.Prelude.{List, ℕ, Result, Ok, Err}
use Rattle.audit.specs.Common.{result_map_both, CaptureFault, Coming, capture_of, ClaimData, PairFault, answer_of, Collection, RunFault, Capture, Exchanges, Device, Memory, run_fault_of}
use Rattle.pairing.specs.declared.fault.PairFault.TheVariants as pairs
use Rattle.report.specs.declared.fault.Input.TheVariants as inputs

-- what a run answers if exchanges can't be collected for this reason
abbrev pub pair_run_fault_of : PairFault → RunFault
pair_run_fault_of (pairs.Capture fault) = run_fault_of fault
pair_run_fault_of pairs.TooManyExchanges = Exchanges
pair_run_fault_of pairs.Memory = Memory

-- what a capture gives whose header was read, or wasn't lawful
abbrev pub collection_read : ClaimData → Result Coming CaptureFault → Result Collection RunFault
collection_read claim (Ok coming) =
    result_map_both (λ collection. collection) pair_run_fault_of (answer_of claim coming)
collection_read claim (Err fault) = Err (Capture fault)

-- what the bytes of a capture give
unfoldable pub capture_read : ClaimData → List ℕ → Result Collection RunFault
capture_read claim bytes = collection_read claim (capture_of bytes)

-- the faults of reading a capture
abbrev pub IsOfCapture : RunFault → Type 0
IsOfCapture (Capture fault) = Unit {0}
IsOfCapture Exchanges = Unit {0}
IsOfCapture (Device inputs.Capture) = Unit {0}
IsOfCapture Memory = Unit {0}
IsOfCapture _ = ⊥
