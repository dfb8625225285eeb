use Rattle.true_time.proofs.Common.{data_of}
use Rattle.true_time.specs.Common.{OfTables}
use Rattle.true_time.specs.FoundHulls.{AreHullsOf}
use Rattle.true_time.proofs.found_hulls.hulls_of.Given as goal

abbrev pub invariant-loop-number : goal.invariant-loop-number
invariant-loop-number l =
    OfTables (data_of l.claim) l.tables (λ samples. AreHullsOf samples (data_of l.claim) l.readings l.hulls.items)
