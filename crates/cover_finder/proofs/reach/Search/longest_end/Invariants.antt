use Rattle.std.proofs.Common.{◌-◌, ◌≤◌, ◌≤ℤ◌, pos, true}
use Rattle.cover_finder.specs.Open.{LiesInside}
use Rattle.cover_finder.specs.Reach.{OfSearch}
use Rattle.cover_finder.proofs.ReachPieces.{NoLonger}
use Rattle.cover_finder.proofs.reach.Search.longest_end.Given as goal

abbrev pub invariant-loop-low : goal.invariant-loop-low
invariant-loop-low l = record {
  from_begin : l.begin ≤ l.low;
  in_order : l.low ≤ l.high;
  to_last : pos l.high ≤ℤ l.self.claim.now.last;
  shown : OfSearch l.self (λ claim xs out. LiesInside claim xs out (pos l.begin) (pos l.low) true);
  no_longer : OfSearch l.self (λ claim xs out. NoLonger claim xs out l.begin l.high);
}

abbrev pub decreases-loop-low : goal.decreases-loop-low
decreases-loop-low l = l.high - l.low
