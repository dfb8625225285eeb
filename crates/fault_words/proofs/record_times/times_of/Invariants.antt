use Rattle.fault_words.proofs.Common.{◌≡◌, ◌≤◌, IfSome}
use Rattle.fault_words.proofs.record_times.times_of.Given as goal

abbrev pub invariant-loop-call : goal.invariant-loop-call
invariant-loop-call g l =
    ((g.S.RecordSource.state l.source).fault_count ≡ (g.S.RecordSource.state l.fn.source).fault_count)
    × IfSome l.seen (λ times. times.first ≤ times.last)
