use Rattle.cover_checker.proofs.Admission.{bounds_span}
use Rattle.cover_checker.proofs.laws.accepted_covers_bound_the_span.Goals as goal

pub returns : goal.returns
returns c claim xs certificate rate accepted =
    bounds_span c.ratios_are_rounded_as_little_as_can_be.ensures.up claim rate xs certificate accepted
