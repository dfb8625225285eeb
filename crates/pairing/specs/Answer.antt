-- What `collect` answers of a source of records.
use Rattle.std.specs.Prelude.{◌≡◌, ◌≤◌, List, All, length, slice_get, Bool, true, false, Option, Some, None, Result, Ok, Err, IfErr, IfOk, IfSome, MatchResult, ◌⊎◌}
use Rattle.pairing.specs.Common.{CountsFault, CaptureFault, Read, Record, IsLawfulHead, most_records, IsRecordFault, Coming, SourceState, TakesFrom, IsBytes, ClaimData}
use Rattle.pairing.specs.declared.fault.PairFault.{PairFault}
use Rattle.pairing.specs.declared.fault.PairFault.TheVariants.{Capture, TooManyExchanges, Memory}
use Rattle.pairing.specs.Exchange.{AreLawful}
use Rattle.pairing.specs.Pairing.{Collection, collection_of}

-- a fault at the end of the records comes before what is collected of them
abbrev pub unless_broken : Option CaptureFault → Result Collection PairFault →
    Result Collection PairFault
unless_broken None collection = collection
unless_broken (Some fault) collection = Err (Capture fault)

-- the answer to records that are still to be given, and their end
unfoldable pub answer_of : ClaimData → Coming → Result Collection PairFault
answer_of claim coming = unless_broken coming.fault (collection_of claim coming.records)

-- a fault that says nothing about the records: out of memory, or the device's
abbrev pub IsFromOutside : PairFault → Type 0
IsFromOutside Memory = Unit {0}
IsFromOutside (Capture Read) = Unit {0}
IsFromOutside _ = ⊥

-- which faults come: of a capture a record's or the device's
abbrev pub MayAnswer : PairFault → Type 0
MayAnswer (Capture Read) = Unit {0}
MayAnswer (Capture fault) = IsRecordFault fault
MayAnswer TooManyExchanges = Unit {0}
MayAnswer Memory = Unit {0}

-- whether the answer is that the device failed
abbrev pub device_failed : {X : Type 0} → Result X PairFault → Bool
device_failed (Err (Capture Read)) = true
device_failed _ = false

-- whether the answer is a fault of the capture
abbrev pub capture_failed : {X : Type 0} → Result X PairFault → Bool
capture_failed (Err (Capture fault)) = true
capture_failed _ = false

-- How an answer leaves the source. `Read` comes exactly if its device failed, and no fault was
-- answered before.
pub record LeavesSource {X : Type 0} (old : SourceState) (result : Result X PairFault)
    (new : SourceState) : Type 0 where
  pub may_answer : IfErr result MayAnswer
  pub counts_fault : CountsFault (device_failed result) old.fault_count new.fault_count
  pub failed_iff : new.has_failed ≡ capture_failed result
  pub takes : TakesFrom old.supply new.supply

-- a record that a source may give
pub record IsGiven (r : Record) : Type 0 where
  pub head : IsLawfulHead r.head
  pub bytes : IsBytes r.bytes

-- the records that a source gave: each stands at its number
pub record AreGiven (records : List Record) : Type 0 where
  pub few : length records ≤ most_records
  pub each : All IsGiven records
  pub numbered : All (λ r. slice_get records r.head.number ≡ Some r) records

-- If the records are known, the answer is theirs, but for a fault from outside. `shown` is what a
-- value of the program says.
abbrev pub IsAnswerTo : {X : Type 0} → (X → Collection) → ClaimData → Result X PairFault → Coming →
    Type 0
IsAnswerTo shown claim result coming =
    MatchResult result
    (λ c. answer_of claim coming ≡ Ok (shown c))
    (λ fault. IsFromOutside fault ⊎ (answer_of claim coming ≡ Err fault))

-- What collecting a source answers and how it leaves the source. What is given keeps every limit,
-- even if the records aren't known.
pub record Collects {X : Type 0} (shown : X → Collection) (claim : ClaimData) (old : SourceState)
    (result : Result X PairFault) (new : SourceState) : Type 0 where
  pub exact : IfSome old.remaining (IsAnswerTo shown claim result)
  pub lawful : IfOk result (λ c. AreLawful (length claim.servers) (shown c).exchanges)
  pub leaves : LeavesSource old result new
