use Rattle.checker.proofs.Common.{◌≡◌, ◌≤◌, [], length, drop, parts_after}
use Rattle.checker.proofs.entry.add_parts.Given as goal

abbrev pub invariant-loop-entry : goal.invariant-loop-entry
invariant-loop-entry g l = record {
  rest : parts_after (g.S.SampleSource.samples l.samples) l.stretch l.drift_ppb [] l.entries.items
      ≡ parts_after (g.S.SampleSource.samples l.samples) l.stretch l.drift_ppb l.parts.items
      (drop l.entry-index l.entries.items);
  fits : length l.parts.items ≤ l.entry-index;
}
