use Rattle.audit_text.proofs.Common.{refl, hull_fields, part_columns, IsUnder}
use Rattle.intersection.specs.declared.kinds.Hull.{Hull}
use Rattle.intersection.specs.declared.kinds.Hull.TheVariants.{Unbounded, Empty, Bounded}
use Rattle.audit_text.proofs.laws.rows_stand_under_their_headings.Goals as goal

hull_under : (hull : Hull) → IsUnder part_columns (hull_fields hull)
hull_under Unbounded = refl
hull_under Empty = refl
hull_under (Bounded lo hi) = refl

pub returns-clause-hulls : goal.returns-clause-hulls
returns-clause-hulls c = hull_under
