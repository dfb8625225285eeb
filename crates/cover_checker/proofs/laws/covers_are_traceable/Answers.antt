use Rattle.cover_checker.proofs.Theorem.{by_covers, traceable}
use Rattle.cover_checker.proofs.laws.covers_are_traceable.Goals as goal

pub returns-clause-named : goal.returns-clause-named
returns-clause-named c claim xs certificate lawful each accepted =
    by_covers c.ratios_are_rounded_as_little_as_can_be.ensures.up claim xs certificate lawful each accepted

pub returns-clause-all : goal.returns-clause-all
returns-clause-all c claim xs certificate lawful each accepted =
    traceable c.ratios_are_rounded_as_little_as_can_be.ensures.up claim xs certificate lawful each accepted
