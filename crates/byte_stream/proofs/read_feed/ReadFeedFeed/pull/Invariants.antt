-- Reads that were interrupted gave nothing, and are no faults.
use Rattle.std.proofs.Common.{◌≡◌, length}
use Rattle.std.specs.Io.KnownBytes.{Keeps}
use Rattle.byte_stream.proofs.read_feed.ReadFeedFeed.pull.Given as goal

abbrev pub invariant-loop-try : goal.invariant-loop-try
invariant-loop-try g l =
    record {
      length_kept : length l.into ≡ length l.initial.into;
      bytes : Keeps (g.R.Read.remaining l.fn.self.reader) (g.R.Read.remaining l.self.reader);
      untaken : l.self.taken ≡ l.fn.self.taken;
      unfailed : l.self.faults ≡ l.fn.self.faults;
    }
