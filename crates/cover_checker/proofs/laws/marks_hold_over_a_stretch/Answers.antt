use Rattle.cover_checker.proofs.Stretches.{low_stays, high_stays}
use Rattle.cover_checker.proofs.laws.marks_hold_over_a_stretch.Goals as goal

pub returns-clause-low : goal.returns-clause-low
returns-clause-low c ppb n stretch mark kept observed rate forth back inside keeps =
    low_stays c.ratios_are_rounded_as_little_as_can_be.ensures.up ppb rate n stretch mark kept observed forth back
    inside keeps

pub returns-clause-high : goal.returns-clause-high
returns-clause-high c ppb n stretch mark kept observed rate forth back inside keeps =
    high_stays c.ratios_are_rounded_as_little_as_can_be.ensures.up ppb rate n stretch mark kept observed forth back
    inside keeps
