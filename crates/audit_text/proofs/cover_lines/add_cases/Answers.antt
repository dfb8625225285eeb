use Rattle.audit_text.proofs.Common.{◌≡◌, ◌∙◌, ◌+◌, ◌++◌, ℕ, List, Some, add-one, ap, append_assoc, map, sym, slice_get, ClaimData, data_of}
use Rattle.audit_text.specs.Common.{CaseData, Style, case_data}
use Rattle.audit_text.specs.CoverLines.{case_at, case_lines, cases_to}
use Rattle.audit_text.proofs.Shown.{found_at}
use Rattle.audit_text.proofs.cover_lines.add_cases.Goals as goal

-- the lines of one more case
one_more : (style : Style) (claim : ClaimData) (cases : List CaseData) (n : ℕ) (case : CaseData)
    (start old new : List ℕ) → slice_get cases n ≡ Some case → new ≡ old ++ case_lines style claim n case
    → old ≡ start ++ cases_to style claim cases n → new ≡ start ++ cases_to style claim cases (n + 1)
one_more style claim cases n case start old new at added so_far =
    added
    ∙ ap (λ (l : List ℕ). l ++ case_lines style claim n case) so_far
    ∙ append_assoc start (cases_to style claim cases n) (case_lines style claim n case)
    ∙ ap (λ o. start ++ (cases_to style claim cases n ++ case_at style claim n o)) (sym at)
    ∙ ap (λ (m : ℕ). start ++ cases_to style claim cases m) (sym (add-one n))

pub loop-number-preserved : goal.loop-number-preserved
loop-number-preserved c =
    let at = c.index-cases-number in
    one_more c.args.style (data_of c.args.claim.now) (map case_data c.args.cases.now) c.loop-number.number
    (case_data at.result) c.args.text.now.items c.loop-number.text.items c.add_case.new.text.items
    (found_at case_data c.args.cases.now c.loop-number.number at.result c.loop-number-test.true (case_data at.result)
    (ap case_data at.is))
    c.in_ok-add_case.ensures c.loop-number.invariant
