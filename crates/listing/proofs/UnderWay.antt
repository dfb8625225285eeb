-- How a listing goes on, call by call.
use Rattle.std.proofs.Common.{rules}
use Rattle.listing.proofs.Common.{◌≡◌, ◌∙◌, ◌++◌, ◌+◌, ◌<◌, ◌≤◌, ◌^◌, ℕ, List, [], length, Option, Some, None, Ok, sym, subst, arith, append-nil, length-append, RecordHead, SourceState, IsFresh, IsStep, TakesFrom-trans, SinkState, OutputState, IsReady, Puts, fresh_output, put_count, line_of, HasPassed, IsUnderWay, PutsLine, progress, most_line, texts_of}
use Rattle.listing.proofs.Progress.{passed_more}

-- an output that has just taken texts may take more
pub ready_after : {o o' : OutputState} {added : List (List ℕ)} → IsReady o → Puts o o' added (Ok tt) →
    put_count o' < 2 ^ 64 → IsReady o'
ready_after ready puts few = grind (arith)

texts_few : (line : Option (List ℕ)) → length (texts_of line) ≤ 1
texts_few None = omega arith
texts_few (Some line) = omega arith

module _ {start : SourceState} {sink : SinkState} where
  pub under_way_start : {o : OutputState} → IsFresh start → IsReady o → o ≡ fresh_output sink →
      IsUnderWay start sink (progress start o) 0
  under_way_start {o = o} fresh ready empty = search rules

  -- what is gathered went out
  pub under_way_flushed : {s : SourceState} {o o' : OutputState} {packets : ℕ} →
      IsUnderWay start sink (progress s o) packets → Puts o o' [] (Ok tt) →
      IsUnderWay start sink (progress s o') packets
  under_way_flushed {o' = o'} u puts = grind (arith, ready_after, append-nil)

  -- a record was given, and its line was put
  pub under_way_more : {s s' : SourceState} {o o' : OutputState} {packets count : ℕ} (head : RecordHead) →
      IsUnderWay start sink (progress s o) packets → IsStep s (Ok (Some head)) s' →
      PutsLine (line_of (record { head = head; bytes = s'.lent })) o o' (Ok count) →
      put_count o' ≤ (put_count o + most_line) → IsUnderWay start sink (progress s' o') (packets + count)
  under_way_more {s = s} {s' = s'} head u step (count_is, puts) short =
      let line = texts_of (line_of (record { head = head; bytes = s'.lent })) in
      let one = texts_few (line_of (record { head = head; bytes = s'.lent })) in
      let number = step.numbers.0 in
      let given = step.numbers.1 in
      let lawful = step.lawful.number in
      let passed = passed_more start.remaining s.remaining s'.remaining u.done s.given head s'.lent u.passed
      step.next_is in
      record {
        ready = ready_after u.ready puts (omega (arith, u.short, u.few));
        unfailed = step.stays_failed;
        same_faults = step.counts_fault ∙ u.same_faults;
        takes = TakesFrom-trans start.supply s.supply s'.supply u.takes step.takes;
        few = omega arith;
        few_packets = omega (arith, u.few_packets);
        short = omega (arith, u.short);
        sink_faults = puts.faults ∙ u.sink_faults;
        done = u.done ++ line;
        packets_are = omega (arith, u.packets_are, length-append u.done line);
        put = puts.texts sink.contents u.done u.put;
        passed = subst (λ (n : ℕ). HasPassed start.remaining s'.remaining (u.done ++ line) n) (sym given) passed;
      }
