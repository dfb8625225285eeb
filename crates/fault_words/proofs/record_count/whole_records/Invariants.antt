use Rattle.std.proofs.Common.{◌≡◌}
use Rattle.fault_words.proofs.record_count.whole_records.Given as goal

abbrev pub invariant-loop-count : goal.invariant-loop-count
invariant-loop-count g l =
    (g.S.RecordSource.state l.source).fault_count ≡ (g.S.RecordSource.state l.fn.source).fault_count
