use Rattle.audit_text.proofs.Common.{◌≡◌, ◌++◌, data_of}
use Rattle.audit_text.specs.Common.{case_data}
use Rattle.audit_text.specs.CoverLines.{wrong_to}
use Rattle.audit_text.proofs.cover_lines.add_wrongs.Given as goal

abbrev pub invariant-loop-server : goal.invariant-loop-server
invariant-loop-server l =
    l.text.items ≡ l.initial.text.items ++ wrong_to l.style (data_of l.claim) (case_data l.case) l.server
