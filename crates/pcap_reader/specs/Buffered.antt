-- A feed with a buffer before it: the bytes that are held, and what both still have.
use Rattle.std.specs.Prelude.{◌≡◌, ◌+◌, ◌-◌, ◌<◌, ◌≤◌, ℕ, List, ◌++◌, length, slice_range, Option, Result, OnOk, OnErr, is_err}
use Rattle.std.specs.Io.KnownBytes.{Consumes, IsAtEnd, prepend_known}
use Rattle.byte_stream.specs.Fault.{CountsFault}
use Rattle.byte_stream.specs.State.{FeedState}
use Rattle.byte_stream.specs.declared.feed.FeedFault.{FeedFault}
use Rattle.pcap_reader.specs.declared.buffered.Buffered.{Buffered}
use Rattle.pcap_reader.specs.Limit.{most_taken}
use Rattle.pcap_reader.specs.Source.{Supply}

-- the bytes that were pulled and not yet consumed
abbrev pub held_bytes : {F : Type 0} → Buffered F → List ℕ
held_bytes b = slice_range b.buffer.items b.start b.end

-- the last `count` bytes that were consumed
abbrev pub last_bytes : {F : Type 0} → Buffered F → ℕ → List ℕ
last_bytes b count = slice_range b.buffer.items (b.start - count) b.start

-- what it still has, if the feed's bytes are known
abbrev pub still_has : {F : Type 0} → (F → FeedState) → Buffered F → Option (List ℕ)
still_has state b = prepend_known (held_bytes b) (state b.feed).remaining

-- what its feed still has, how many bytes of it were pulled, and how many more may be
abbrev pub supply_of : {F : Type 0} → (F → FeedState) → Buffered F → Supply
supply_of state b =
    record {
      unread = (state b.feed).remaining;
      count = (state b.feed).taken;
      most = most_taken - (b.place + (b.end - b.start));
    }

-- Bytes were pulled from a feed, which counts no more than these, and stand after those that were
-- held.
pub record Pulls (before after : FeedState) (held held' : List ℕ) : Type 0 where
  pub pulled : List ℕ
  pub consumed : Consumes before.remaining after.remaining pulled
  pub joined : held' ≡ held ++ pulled
  pub counted : after.taken ≤ before.taken + length pulled

-- Bytes were pulled until `wanted` are held or the feed is at its end. It failed only before that.
pub record Refills {F : Type 0} (state : F → FeedState) (wanted : ℕ) (old : Buffered F)
    (result : Result (Unit {0}) FeedFault) (new : Buffered F) : Type 0 where
  pub pulls : Pulls (state old.feed) (state new.feed) (held_bytes old) (held_bytes new)
  pub place : new.place ≡ old.place
  pub enough : OnOk result (new.end - new.start < wanted → IsAtEnd (state new.feed).remaining)
  pub short : OnErr result (new.end - new.start < wanted)
  pub counts_fault : CountsFault (is_err result) (state old.feed).faults (state new.feed).faults
