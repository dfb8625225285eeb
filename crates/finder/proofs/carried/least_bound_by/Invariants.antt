use Rattle.finder.proofs.Common.{◌≤◌, ◌-◌, pos, data_of, max_bound_ns, IsCarried, IsFirst, with_bound, OfTables}
use Rattle.finder.proofs.carried.least_bound_by.Given as goal

abbrev pub invariant-loop-least : goal.invariant-loop-least
invariant-loop-least l = record {
  in_order : l.least ≤ l.bound_ns;
  small : l.bound_ns ≤ max_bound_ns;
  carried : OfTables (data_of l.claim) l.tables (λ samples.
      IsCarried samples (with_bound (data_of l.claim) l.bound_ns));
  first : OfTables (data_of l.claim) l.tables (λ samples.
      IsFirst samples (data_of l.claim) l.least (pos l.tick));
}

abbrev pub decreases-loop-least : goal.decreases-loop-least
decreases-loop-least l = l.bound_ns - l.least
