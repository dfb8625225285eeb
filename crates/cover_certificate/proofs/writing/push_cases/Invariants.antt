use Rattle.cover_certificate.proofs.Common.{◌≡◌, ◌<◌, ℕ, ◌++◌, map, take, get_or, join_with_byte, Case, IsHeldCase, case_data, comma, case_text}
use Rattle.cover_certificate.proofs.writing.push_cases.Given as goal

abbrev pub invariant-loop-index : goal.invariant-loop-index
invariant-loop-index l = record {
  written : l.text.items
      ≡ l.fn.text.items ++ join_with_byte comma (map case_text (map case_data (take l.index l.cases)));
  held : (k : ℕ) (d : Case) → k < l.index → IsHeldCase (case_data (get_or l.cases k d));
}
