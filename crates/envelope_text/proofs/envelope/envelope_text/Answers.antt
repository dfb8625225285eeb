use Rattle.envelope_text.proofs.Common.{append_assoc, refl, envelope_text}
use Rattle.envelope_text.proofs.envelope.envelope_text.Goals as goal

pub returns : goal.returns
unfolding envelope_text
returns g c =
    rw (c.in_ok-add_least.ensures, c.in_ok-add_bound.ensures, c.in_ok-add_pieces.ensures, c.deref.ensures.value)
    (rw (c.in_ok-add_heading.ensures, c.columns.ensures, c.new-text.ensures.items) (simp append_assoc refl))
