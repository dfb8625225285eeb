use Rattle.audit_text.proofs.Common.{append_assoc, refl, parts_text}
use Rattle.audit_text.proofs.parts.parts_text.Goals as goal

pub returns : goal.returns
unfolding parts_text
returns c =
    rw (c.in_ok-add_row.ensures, c.hull_low.ensures, c.hull_high.ensures, c.in_ok-add_parts.ensures)
    (rw (c.in_ok-add_heading.ensures, c.new-text.ensures.items) (simp append_assoc refl))
