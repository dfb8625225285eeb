use Rattle.listing.proofs.Common.{◌≡◌, ◌-◌, most_records, IsUnderWay, progress}
use Rattle.report.specs.State.{output_state, sink_name}
use Rattle.listing.proofs.list.list_records.Given as goal

abbrev pub invariant-records : goal.invariant-records
invariant-records g l =
    let state = output_state g.S.Sink.state in
    record {
      same_sink : sink_name l.out ≡ sink_name l.fn.out;
      given : l.records ≡ (g.R.RecordSource.state l.source).given;
      under_way : IsUnderWay (g.R.RecordSource.state l.fn.source) (state l.fn.out).sink
          (progress (g.R.RecordSource.state l.source) (state l.out)) l.packets;
    }

abbrev pub decreases-records : goal.decreases-records
decreases-records g l = most_records - l.records
