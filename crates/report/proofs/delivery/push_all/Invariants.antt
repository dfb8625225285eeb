use Rattle.report.proofs.Common.{◌≡◌, ◌≤◌, ◌-◌, length, take, IsTrue, Appends}
use Rattle.report.proofs.delivery.push_all.Given as goal

abbrev pub invariant-loop-gone : goal.invariant-loop-gone
invariant-loop-gone g l = record {
  within : l.gone ≤ length l.bytes;
  went : Appends (g.S.Sink.state l.initial.out).contents (g.S.Sink.state l.out).contents (take l.gone l.bytes);
  stays_open : IsTrue (g.S.Sink.state l.out).is_open;
  no_fault : (g.S.Sink.state l.out).faults ≡ (g.S.Sink.state l.initial.out).faults;
}

abbrev pub decreases-loop-gone : goal.decreases-loop-gone
decreases-loop-gone g l = length l.bytes - l.gone
