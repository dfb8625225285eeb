use Rattle.cover_checker.proofs.WholeHull.{hull_holds}
use Rattle.cover_checker.proofs.laws.hulls_hold_the_error.Goals as goal

pub returns : goal.returns
returns c claim xs out stretch parts hull lawful each said is =
    hull_holds c.ratios_are_rounded_as_little_as_can_be.ensures.up claim xs lawful each out stretch parts hull said is
