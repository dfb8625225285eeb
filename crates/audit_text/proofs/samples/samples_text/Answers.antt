use Rattle.std.proofs.Common.{append_assoc, refl}
use Rattle.audit_text.specs.Samples.{samples_text}
use Rattle.audit_text.proofs.samples.samples_text.Goals as goal

pub returns : goal.returns
unfolding samples_text
returns c =
    rw (c.in_ok-add_counts.ensures, c.in_ok-add_samples.ensures, c.in_ok-add_heading.ensures, c.deref.ensures.value)
    (rw c.new-text.ensures.items (simp append_assoc refl))
