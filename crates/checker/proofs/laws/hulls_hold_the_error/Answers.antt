use Rattle.std.proofs.Common.{rules}
use Rattle.checker.proofs.Best.{best_parts_are}
use Rattle.checker.proofs.Hull.{Laws, capture_holds}
use Rattle.checker.specs.BestParts.{best_parts}
use Rattle.checker.proofs.laws.hulls_hold_the_error.Goals as goal

pub returns-clause-best : goal.returns-clause-best
returns-clause-best c claim samples stretch lawful are =
    let laws : Laws = search rules in
    capture_holds laws claim samples lawful are stretch (best_parts claim samples stretch)
    (best_parts_are claim samples stretch)
