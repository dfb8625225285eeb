use Rattle.finder.proofs.Common.{◌≡◌, ◌≤◌, length, take, data_of, parts_named}
use Rattle.finder.proofs.hull.parts.Given as goal

abbrev pub invariant-loop-entry : goal.invariant-loop-entry
invariant-loop-entry g l = record {
  so_far : l.parts.items ≡ parts_named (g.S.SampleSource.samples l.samples) (data_of l.claim) l.stretch
      (take l.entry-index l.entries.items);
  fits : length l.parts.items ≤ l.entry-index;
}
