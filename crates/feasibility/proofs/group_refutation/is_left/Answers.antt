use Rattle.feasibility.proofs.group_refutation.is_left.Goals as goal

pub returns-then-are_covered_by : goal.returns-then-are_covered_by
returns-then-are_covered_by g c = (
  λ fits. (c.are_covered_by.ensures.exact.0 c.if-are_covered_by.true, c.is_compatible_outside.ensures.0 fits),
  λ both. c.is_compatible_outside.ensures.1 both.1,
)
