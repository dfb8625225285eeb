-- How far a source was read.
use Rattle.std.specs.Prelude.{◌≡◌, List, ◌++◌, length, false, Option, Some, None, IfSome}
use Rattle.pairing.specs.Common.{Record, Coming, SourceState, TakesFrom, ClaimData}
use Rattle.pairing.specs.declared.counts.Counts.{Counts}
use Rattle.pairing.specs.declared.compact.CompactExchange.{CompactExchange}
use Rattle.pairing.specs.declared.index.IndexedRequest.{IndexedRequest}
use Rattle.pairing.specs.Answer.{AreGiven}
use Rattle.pairing.specs.Gathering.{IsGatheredFrom}

-- Of what was to come these records were given, and the rest remains.
abbrev pub Continues : List Record → Option Coming → Coming → Type 0
Continues done after coming =
    (rest : Coming) × (after ≡ Some rest) × (coming.records ≡ done ++ rest.records)
    × (coming.fault ≡ rest.fault)

-- These records were given since the start.
pub record IsRead (start now : SourceState) (done : List Record) : Type 0 where
  pub given : AreGiven done
  pub count : now.given ≡ length done
  pub known : IfSome start.remaining (Continues done now.remaining)
  pub unfailed : now.has_failed ≡ false
  pub no_fault : now.fault_count ≡ start.fault_count
  pub takes : TakesFrom start.supply now.supply

-- All records of the source were given, and its end is whole.
abbrev pub IsWhole : List Record → Coming → Type 0
IsWhole records coming = (coming.records ≡ records) × (coming.fault ≡ None)

-- So far some records were read, and are gathered.
pub record Gathers (claim : ClaimData) (start now : SourceState)
    (kept : List IndexedRequest) (held : List CompactExchange) (counts : Counts) : Type 0 where
  pub records : List Record
  pub read : IsRead start now records
  pub gathered : IsGatheredFrom claim records kept held counts

-- A whole source was read, and is gathered.
pub record GathersAll (claim : ClaimData) (remaining : Option Coming)
    (kept : List IndexedRequest) (held : List CompactExchange) (counts : Counts) : Type 0 where
  pub records : List Record
  pub given : AreGiven records
  pub known : IfSome remaining (IsWhole records)
  pub gathered : IsGatheredFrom claim records kept held counts
