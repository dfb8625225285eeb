use Rattle.audit_text.proofs.Common.{append_assoc, refl, check_text}
use Rattle.audit_text.proofs.check_report.check_text.Goals as goal

pub returns : goal.returns
unfolding check_text
returns c =
    rw (c.in_ok-add_verdict.ensures, c.in_ok-add_about.ensures, c.in_ok-add_fits.ensures, c.in_ok-add_lines.ensures)
    (rw (c.in_ok-add_pieces.ensures, c.in_ok-add_reference_advice.ensures, c.in_ok-add_sources_advice.ensures)
    (rw (c.in_ok-add_counts.ensures, c.in_ok-add_span.ensures, c.in_ok-add_client.ensures, c.new-text.ensures.items)
    (simp append_assoc refl)))
