use Rattle.finder.proofs.Common.{◌≡◌, ◌-◌, ◌≤◌, pos, ◌≤ℤ◌, length, List, max_pieces, data_of, Sample, AreLongest, end_after, AreTablesFor}
use Rattle.finder.proofs.reach.longest_ends.Given as goal

abbrev pub invariant-loop-pace : goal.invariant-loop-pace
invariant-loop-pace l = record {
  longest : (samples : List Sample) → AreTablesFor samples (data_of l.claim) l.tables
      → AreLongest samples (data_of l.claim) l.claim.first l.ends.items;
  begins : pos l.begin ≡ end_after l.claim.first l.ends.items;
  within : pos l.begin ≤ℤ l.claim.last;
  few : length l.ends.items ≤ max_pieces;
}

abbrev pub decreases-loop-pace : goal.decreases-loop-pace
decreases-loop-pace l = max_pieces - length l.ends.items
