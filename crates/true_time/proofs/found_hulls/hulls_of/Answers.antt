use Rattle.std.proofs.Common.{rules}
use Rattle.true_time.proofs.Common.{subst, data_of}
use Rattle.true_time.specs.FoundHulls.{AreHullsOf}
use Rattle.true_time.proofs.PutIntoPlace.{written_back}
use Rattle.true_time.proofs.found_hulls.hulls_of.Goals as goal

pub loop-number-preserved : goal.loop-number-preserved
loop-number-preserved c samples tabled =
    let before = c.loop-number.hulls in
    let after = c.find_hull.new.hulls in
    subst (AreHullsOf samples (data_of c.args.claim.now) c.args.readings.now)
    (written_back after before.items before.len (search rules) (search rules))
    (c.find_hull.ensures samples tabled)
