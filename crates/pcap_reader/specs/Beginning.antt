-- How a capture begins over a feed: a source of its records, or a refusal that hands the feed back.
use Rattle.std.specs.Prelude.{◌≡◌, IfSome}
use Rattle.byte_stream.specs.Fault.{CountsFault}
use Rattle.byte_stream.specs.Intake.{TakesAtMost}
use Rattle.byte_stream.specs.State.{FeedState}
use Rattle.pcap_reader.specs.declared.fault.CaptureFault.{CaptureFault}
use Rattle.pcap_reader.specs.declared.fault.CaptureFault.TheVariants.{Memory}
use Rattle.pcap_reader.specs.Refusal.{IsRefusal, most_refused}
use Rattle.pcap_reader.specs.Source.{SourceState, IsFresh, AllRemains, TakesFrom, whole_supply, is_read}

-- A source begins over a feed.
pub record BeginsOver (feed : FeedState) (source : SourceState) : Type 0 where
  -- nothing was given, and no fault answered
  pub fresh : IsFresh source
  -- if the bytes are known, they are those of a capture, and all of it is still to come
  pub known : IfSome feed.remaining (λ bytes. AllRemains bytes source.remaining)
  -- the device hasn't failed
  pub unfailed : source.fault_count ≡ feed.faults
  -- bytes were taken from the front of the feed, and a whole capture may be taken in all
  pub takes : TakesFrom (whole_supply feed) source.supply

-- A feed is refused with this fault, and handed back.
pub record Refuses {F : Type 0} (state : F → FeedState) (before after : F) (fault : CaptureFault) :
    Type 0 where
  -- the fault is that of the header, if it isn't the device's or want of memory
  pub refusal : IsRefusal (state before).remaining fault
  -- it's the device's exactly if the feed failed
  pub counts_fault : CountsFault (is_read fault) (state before).faults (state after).faults
  -- nothing was taken after a header that is there
  pub at_most : TakesAtMost (most_refused fault) (state before) (state after)
  -- the buffer is made before the first byte is taken
  pub memory : fault ≡ Memory → after ≡ before
