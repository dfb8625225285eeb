use Rattle.std.proofs.Common.{refl}
use Rattle.checker.proofs.Traceability.{traceable_by_pieces, traceable, contradiction, refused_by_hull}
use Rattle.checker.proofs.laws.verdicts_are_traceable.Goals as goal

pub returns : goal.returns
returns c claim samples certificate lawful are =
    let piece = c.hulls_hold_the_error.ensures.piece in
    record {
      exact = refl;
      yes = traceable piece claim samples certificate lawful are;
      by_pieces = traceable_by_pieces piece claim samples certificate lawful are;
      contradiction = contradiction piece claim samples certificate lawful are;
      held = refused_by_hull piece claim samples certificate lawful are;
    }
