use Rattle.cover_finder.proofs.NearEnds.{nearly_attained}
use Rattle.cover_finder.proofs.laws.ends_are_nearly_attained.Goals as goal

pub returns : goal.returns
returns c claim xs stretch hull lawful each piece by few =
    nearly_attained claim xs stretch lawful each piece hull by few
