-- Steps of a source.
use Rattle.pcap_reader.proofs.Common.{arith, ◌≡◌, ◌↔◌, ℕ, Err, Option, Result, Bool, false, IsTrue, IsErrOf, CountsFault, RecordHead, CaptureFault, Read, Failed, IsRecordFault, MayAnswer, read_failed}

-- a record's fault is one that may be answered
pub record_fault_may : (e : CaptureFault) → IsRecordFault e → MayAnswer e
record_fault_may Read h = tt
record_fault_may Failed h = tt
record_fault_may e h = h

-- the device hasn't failed
pub record_fault_counts : (e : CaptureFault) (n m : ℕ) → IsRecordFault e → m ≡ n →
    CountsFault (read_failed {X = Option RecordHead} (Err e)) n m
record_fault_counts Read n m h same = absurd h
record_fault_counts e n m h same = same

not_failed : (e : CaptureFault) → IsRecordFault e → e ≡ Failed → ⊥
not_failed Failed h same = h
not_failed e h same = cc

-- no answer of a source that hasn't failed is the answer after a fault
pub unfailed_iff : (r : Result (Option RecordHead) CaptureFault) (b : Bool) → b ≡ false → (IsErrOf r Failed → ⊥) →
    IsErrOf r Failed ↔ IsTrue b
unfailed_iff r b unfailed other = grind arith

pub record_fault_iff : (e : CaptureFault) (b : Bool) → IsRecordFault e → b ≡ false →
    IsErrOf {T = Option RecordHead} (Err e) Failed ↔ IsTrue b
record_fault_iff e b h unfailed = grind (arith, unfailed_iff, not_failed)
