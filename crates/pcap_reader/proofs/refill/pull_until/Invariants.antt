-- The bytes that stand at the front grow by what was pulled, and nothing of them is lost.
use Rattle.pcap_reader.proofs.Common.{◌≡◌, ◌-◌, ◌≤◌, take, Pulls}
use Rattle.pcap_reader.proofs.refill.pull_until.Given as goal

abbrev pub invariant-loop-held : goal.invariant-loop-held
invariant-loop-held g l =
    record {
      at_most : l.held ≤ l.most;
      unfailed : (g.F.Feed.state l.feed).faults ≡ (g.F.Feed.state l.initial.feed).faults;
      pulls : Pulls (g.F.Feed.state l.initial.feed) (g.F.Feed.state l.feed)
          (take l.initial.held l.initial.buffer) (take l.held l.buffer);
    }

abbrev pub decreases-loop-held : goal.decreases-loop-held
decreases-loop-held g l = l.wanted - l.held
