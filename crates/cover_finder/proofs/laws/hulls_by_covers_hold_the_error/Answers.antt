use Rattle.cover_finder.proofs.HeldErrors.{held}
use Rattle.cover_finder.proofs.laws.hulls_by_covers_hold_the_error.Goals as goal

pub returns : goal.returns
returns c claim xs stretch hull lawful each by =
    held claim xs stretch lawful each hull c.hulls_hold_the_error.ensures by
