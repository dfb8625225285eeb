-- How far a listing has come.
use Rattle.std.specs.Prelude.{◌≡◌, ◌+◌, ◌-◌, ◌*◌, ◌^◌, ◌<◌, ◌≤◌, ℕ, List, [], ◌∷◌, ◌++◌, length, Option, Some, None, Ok, IfSome, false, Result, Err}
use Rattle.listing.specs.Common.{option_map, CountsFault, FeedState, SinkState, IsWritable, most_records, Coming, SourceState, IsFresh, TakesFrom, Outcome, RunFault, Memory, HasRun, CanClose, stops_of, OutputState, HasPut, IsReady, Puts, put_count, Reports, is_device, is_claim, is_second, is_capture, is_sums, capture_state}
use Rattle.listing.specs.Listing.{lines_of, listing}

-- A source may be listed on a sink: it has given nothing, and both may be used.
pub record CanList (source : SourceState) (sink : SinkState) : Type 0 where
  pub fresh : IsFresh source
  pub source_room : source.fault_count < 2 ^ 64 - 1
  pub writable : IsWritable sink

-- the feed that a source reads, as far as a run speaks of it
abbrev pub feed_of : SourceState → FeedState
feed_of source = record {
  remaining = source.supply.unread;
  taken = source.supply.count;
  faults = source.fault_count;
}

-- Of a capture some records were given, and these are the lines of those that hold an NTP packet.
pub record HasGiven (whole rest : Coming) (done : List (List ℕ)) (records : ℕ) : Type 0 where
  pub lines : lines_of whole.records ≡ done ++ lines_of rest.records
  pub fault : whole.fault ≡ rest.fault
  pub given : length whole.records ≡ records + length rest.records

-- the same if the bytes of the capture are known
abbrev pub HasPassed : Option Coming → Option Coming → List (List ℕ) → ℕ → Type 0
HasPassed start now done records =
    IfSome start (λ whole. (rest : Coming) × (now ≡ Some rest) × HasGiven whole rest done records)

-- how far it has come: what its source and its output are then
pub record Progress : Type 0 where
  pub source : SourceState
  pub output : OutputState

abbrev pub progress : SourceState → OutputState → Progress
progress source output = record { source = source; output = output }

-- more bytes than a line of a listing has
abbrev pub most_line : ℕ
most_line = 512

-- the texts that a record's line adds: one, or none
abbrev pub texts_of : Option (List ℕ) → List (List ℕ)
texts_of None = []
texts_of (Some line) = line ∷ []

-- A record's line was put, if it has one, and this is how many lines that are.
abbrev pub PutsLine : Option (List ℕ) → OutputState → OutputState → Result ℕ RunFault → Type 0
PutsLine line old new (Ok count) =
    (count ≡ length (texts_of line)) × Puts old new (texts_of line) (Ok tt)
PutsLine line old new (Err fault) = Puts old new (texts_of line) (Err fault)

-- A listing under way: some records were given, `packets` of them hold an NTP packet, and the lines
-- of these were put.
pub record IsUnderWay (start : SourceState) (sink : SinkState) (now : Progress) (packets : ℕ)
    : Type 0 where
  pub ready : IsReady now.output
  pub unfailed : now.source.has_failed ≡ false
  pub same_faults : now.source.fault_count ≡ start.fault_count
  pub takes : TakesFrom start.supply now.source.supply
  pub few : now.source.given ≤ most_records
  pub few_packets : packets ≤ now.source.given
  pub short : put_count now.output ≤ most_line * now.source.given
  pub sink_faults : now.output.sink.faults ≡ sink.faults
  pub done : List (List ℕ)
  pub packets_are : packets ≡ length done
  pub put : HasPut sink.contents now.output done
  pub passed : HasPassed start.remaining now.source.remaining done now.source.given

-- The capture's device failed in the run exactly if the answer says so, and it says so about no
-- other input.
pub record CountsCapture (ran : Result Outcome RunFault) (before after : ℕ) : Type 0 where
  pub claim : is_device is_claim ran ≡ false
  pub second : is_device is_second ran ≡ false
  pub capture : CountsFault (is_device is_capture ran) before after
  pub sums : is_device is_sums ran ≡ false

-- A listing that came to this answer and is still to be closed.
pub record HasListed (start : SourceState) (sink : SinkState) (now : Progress)
    (ran : Result Outcome RunFault) : Type 0 where
  pub text : IfSome start.remaining (λ coming. HasRun (listing coming) sink.contents now.output ran)
  pub can_close : CanClose now.output ran
  pub stops : now.output.sink.faults ≡ sink.faults + stops_of ran
  pub device : CountsCapture ran start.fault_count now.source.fault_count
  pub takes : TakesFrom start.supply now.source.supply
  pub in_memory : ran ≡ Err Memory → ⊥

-- What a listing does that has the memory that it needs: what every engine promises, with a bound
-- on what it takes of the capture. It isn't refused for memory.
pub record Lists (start end : SourceState) (before after : SinkState)
    (answer : Result Outcome RunFault) : Type 0 where
  pub reports : Reports (option_map listing start.remaining)
      (capture_state (feed_of start) before) (capture_state (feed_of end) after) answer
  pub takes : TakesFrom start.supply end.supply
  pub in_memory : answer ≡ Err Memory → ⊥
