use Rattle.report.proofs.Common.{◌≡◌, ◌+◌, ◌-◌, ◌≤◌, length, Consumes}
use Rattle.report.proofs.input.read_onto.Given as goal

abbrev pub invariant-pulls : goal.invariant-pulls
invariant-pulls g l = record {
  taken : Consumes (g.F.Feed.state l.initial.feed).remaining (g.F.Feed.state l.feed).remaining l.read.items;
  counted : (g.F.Feed.state l.feed).taken ≤ (g.F.Feed.state l.initial.feed).taken + length l.read.items;
  within : length l.read.items ≤ l.limit;
  chunk : length l.chunk.items ≡ 65536;
  unfailed : (g.F.Feed.state l.feed).faults ≡ (g.F.Feed.state l.initial.feed).faults;
}

abbrev pub decreases-pulls : goal.decreases-pulls
decreases-pulls g l = l.limit - length l.read.items
