use Rattle.checker.proofs.Common.{arith, slice_get_within}
use Rattle.checker.proofs.PieceVerdict.{all_pass, each_passes, one_fails}
use Rattle.checker.proofs.VerdictPieces.{yes_end}
use Rattle.checker.proofs.laws.pieces_give_the_verdict.Goals as goal

pub returns-clause-yes : goal.returns-clause-yes
returns-clause-yes c samples claim certificate some ends each =
    all_pass samples claim 0 claim.first certificate.pieces (omega (arith, some)) ends
    (λ k piece at. each k piece (slice_get_within certificate.pieces k piece at) at)

pub returns-clause-each : goal.returns-clause-each
returns-clause-each c samples claim certificate e k piece below at =
    each_passes samples claim 0 claim.first certificate.pieces e k piece at

pub returns-clause-covers : goal.returns-clause-covers
returns-clause-covers c samples claim certificate e =
    let ends = yes_end samples claim 0 claim.first certificate.pieces e in
    (omega (arith, ends.0), ends.1)

pub returns-clause-no : goal.returns-clause-no
returns-clause-no c samples claim certificate k piece why at below fails =
    one_fails samples claim 0 k claim.first certificate.pieces piece why k (omega arith) at below fails
