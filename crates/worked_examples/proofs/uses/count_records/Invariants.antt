use Rattle.std.proofs.Common.{◌≡◌, ◌-◌, false}
use Rattle.pcap_reader.specs.Capture.{most_records}
use Rattle.worked_examples.proofs.Count.{HasCounted}
use Rattle.worked_examples.proofs.uses.count_records.Given as goal

abbrev pub invariant-records : goal.invariant-records
invariant-records g l =
    let start = g.S.RecordSource.state l.fn.source in
    let now = g.S.RecordSource.state l.source in
    record {
      given : l.count ≡ now.given;
      unfailed : now.has_failed ≡ false;
      same_faults : now.fault_count ≡ start.fault_count;
      counted : HasCounted start.remaining now.remaining l.count;
    }

abbrev pub decreases-records : goal.decreases-records
decreases-records g l = most_records - l.count
