use Rattle.cover_checker.proofs.Theorem.{never_refuted}
use Rattle.cover_checker.proofs.laws.covers_and_refutation_never_meet.Goals as goal

pub returns : goal.returns
returns c claim xs certificate refutation lawful each accepted refuted =
    never_refuted c.ratios_are_rounded_as_little_as_can_be.ensures.up claim xs certificate lawful each accepted
    refutation refuted
