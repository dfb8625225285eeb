use Rattle.audit_text.proofs.Common.{◌≡◌, ◌++◌, map, data_of}
use Rattle.audit_text.specs.Common.{case_data}
use Rattle.audit_text.specs.CoverLines.{cases_to}
use Rattle.audit_text.proofs.cover_lines.add_cases.Given as goal

abbrev pub invariant-loop-number : goal.invariant-loop-number
invariant-loop-number l =
    l.text.items ≡ l.initial.text.items ++ cases_to l.style (data_of l.claim) (map case_data l.cases) l.number
