use Rattle.pairing.proofs.Common.{◌-◌, most_records, data_of, Gathers}
use Rattle.pairing.proofs.collection.gather.Given as goal

abbrev pub invariant-records : goal.invariant-records
invariant-records g l =
    Gathers (data_of l.claim) (g.S.RecordSource.state l.initial.source) (g.S.RecordSource.state l.source)
    l.gathering.requests.items l.gathering.exchanges.items l.gathering.counts

abbrev pub decreases-records : goal.decreases-records
decreases-records g l = most_records - (g.S.RecordSource.state l.source).given
