use Rattle.finder.proofs.Common.{inl, inr, data_of, with_bound}
use Rattle.finder.proofs.CarriedBound.{carried_by_ends, reached_by}
use Rattle.finder.proofs.carried.try_bound.Goals as goal

pub returns-in-End : goal.returns-in-End
returns-in-End c samples tabled =
    carried_by_ends samples (with_bound (data_of c.args.claim.now) c.args.bound_ns) c.in-End.field-0.items
    (rw c.in-End.is at (reached_by samples (data_of c.args.claim.now) c.args.bound_ns _ c.args.tables.now
    c.in_ok-longest_ends.field-0 c.in_ok-claim.ensures (c.in_ok-longest_ends.ensures samples) tabled))

pub returns-in-Stuck : goal.returns-in-Stuck
returns-in-Stuck c samples tabled =
    inl (
      _,
      _,
      rw c.in-Stuck.is at (reached_by samples (data_of c.args.claim.now) c.args.bound_ns _ c.args.tables.now
          c.in_ok-longest_ends.field-0 c.in_ok-claim.ensures (c.in_ok-longest_ends.ensures samples) tabled),
    )

pub returns : goal.returns
returns c samples tabled =
    inr (rw c.in-TooLong.is at (reached_by samples (data_of c.args.claim.now) c.args.bound_ns _ c.args.tables.now
    c.in_ok-longest_ends.field-0 c.in_ok-claim.ensures (c.in_ok-longest_ends.ensures samples) tabled))
