use Rattle.cover_certificate.proofs.Common.{◌≡◌, ◌<◌, ◌++◌, ◌∷◌, [], map, length, Some, None, Ok, Err, inl, inr, sym, ap, ◌∙◌, arith, length-map, length-append, map-append, parse_map, after_end_array, array_ends, mapped-shorter, mapped_some, next_value, next_items, case_of, cases_data, cases_from, case_data, max_cases, judged, common_steps}
use Rattle.cover_certificate.proofs.CasesRead.{bad_refused, bad_there, case_counted, case_refused, full_there, good_there, next_case, next_is}
use Rattle.cover_certificate.proofs.cases.read_cases.Goals as goal

pub returns-then-len-eq-MAX_CASES : goal.returns-then-len-eq-MAX_CASES
returns-then-len-eq-MAX_CASES c =
    let l = c.cases in
    let going : (after_end_array l.reader ≡ None) × (c.take_end_array.new.self ≡ l.reader) = grind arith in
    let full : length l.cases.items ≡ max_cases = grind arith in
    l.invariant.read
    ∙ full_there (cases_data l.cases) c.args.depth l.reader going.0 c.pass_items.new.reader
    (length-map l.cases.items case_data ∙ full) (rw (← going.1) c.in_ok-pass_items.ensures.passed)

pub returns-in_err-case : goal.returns-in_err-case
returns-in_err-case c =
    let l = c.cases in
    let going : (after_end_array l.reader ≡ None) × (c.take_end_array.new.self ≡ l.reader) = grind arith in
    let count : length (cases_data l.cases) ≡ length l.cases.items = length-map l.cases.items case_data in
    let few : length (cases_data l.cases) < max_cases = grind (arith, count, l.invariant.few) in
    elim c.in_err-case.ensures [
      | inl memory ↦ grind (arith, memory)
      | inr none ↦
          let refused = l.invariant.read
          ∙ case_refused (cases_data l.cases) c.args.depth l.reader going.0 few
          (next_is l.cases.items c.len-in-cases.result c.piece_count-first.result (grind arith) (grind arith)
          (next_value c.args.depth l.reader)
          ∙ rw (← going.1) none.1) in
          grind (arith, refused)
    ]

pub cases-smaller : goal.cases-smaller
cases-smaller c =
    let l = c.cases in
    let going : (after_end_array l.reader ≡ None) × (c.take_end_array.new.self ≡ l.reader) = grind arith in
    mapped-shorter (case_of c.len-in-cases.result c.piece_count-first.result) c.args.depth l.reader
    c.read_case.new.reader (judged case_data c.in_ok-case.field-0)
    (rw (← going.1) c.in_ok-case.ensures)

pub cases-preserved : goal.cases-preserved
cases-preserved c =
    let l = c.cases in
    let s = c.read_case.new.reader in
    let case = case_data c.in-Ok.case in
    let going : (after_end_array l.reader ≡ None) × (c.take_end_array.new.self ≡ l.reader) = grind arith in
    let count : length (cases_data l.cases) ≡ length l.cases.items = length-map l.cases.items case_data in
    let few : length (cases_data l.cases) < max_cases = grind (arith, count, l.invariant.few) in
    let is : parse_map (next_case (cases_data l.cases)) (next_value c.args.depth l.reader) ≡ Some (Ok case, s) =
    next_is l.cases.items c.len-in-cases.result c.piece_count-first.result (grind arith) (grind arith)
    (next_value c.args.depth l.reader)
    ∙ rw (← going.1) c.in_ok-case.ensures ∙ ap (λ a. Some (judged case_data a, s)) c.in-Ok.is in
    let items : c.push.new.self.items ≡ l.cases.items ++ c.in-Ok.case ∷ [] = grind (arith, common_steps) in
    let pushed : cases_data c.push.new.self ≡ cases_data l.cases ++ case ∷ [] =
    ap (map case_data) items ∙ map-append case_data l.cases.items (c.in-Ok.case ∷ []) in
    let (v, good, next) = mapped_some (next_case (cases_data l.cases)) (next_value c.args.depth l.reader) (Ok case) s is
    in record {
      read = l.invariant.read ∙ good_there (cases_data l.cases) c.args.depth l.reader going.0 few case s is
          ∙ ap (λ cs. parse_map (cases_from cs) (next_items c.args.depth s)) (sym pushed);
      few = rw items (simp length-append (grind (arith, count, few)));
      pieces = rw pushed (case_counted (cases_data l.cases) v case good);
    }

pub returns-in_err-pass_items-in-Err : goal.returns-in_err-pass_items-in-Err
returns-in_err-pass_items-in-Err c =
    let l = c.cases in
    let s = c.read_case.new.reader in
    let fault = c.in-Err.fault in
    let going : (after_end_array l.reader ≡ None) × (c.take_end_array.new.self ≡ l.reader) = grind arith in
    let count : length (cases_data l.cases) ≡ length l.cases.items = length-map l.cases.items case_data in
    let few : length (cases_data l.cases) < max_cases = grind (arith, count, l.invariant.few) in
    let is : parse_map (next_case (cases_data l.cases)) (next_value c.args.depth l.reader) ≡ Some (Err fault, s) =
    next_is l.cases.items c.len-in-cases.result c.piece_count-first.result (grind arith) (grind arith)
    (next_value c.args.depth l.reader)
    ∙ rw (← going.1) c.in_ok-case.ensures ∙ ap (λ a. Some (judged case_data a, s)) c.in-Err.is in
    let refused = l.invariant.read
    ∙ bad_refused (cases_data l.cases) c.args.depth l.reader going.0 few fault s is
    c.in_err-pass_items-in-Err.ensures.passed in
    grind (arith, refused)

pub returns-in-Err : goal.returns-in-Err
returns-in-Err c =
    let l = c.cases in
    let s = c.read_case.new.reader in
    let fault = c.in-Err.fault in
    let going : (after_end_array l.reader ≡ None) × (c.take_end_array.new.self ≡ l.reader) = grind arith in
    let count : length (cases_data l.cases) ≡ length l.cases.items = length-map l.cases.items case_data in
    let few : length (cases_data l.cases) < max_cases = grind (arith, count, l.invariant.few) in
    let is : parse_map (next_case (cases_data l.cases)) (next_value c.args.depth l.reader) ≡ Some (Err fault, s) =
    next_is l.cases.items c.len-in-cases.result c.piece_count-first.result (grind arith) (grind arith)
    (next_value c.args.depth l.reader)
    ∙ rw (← going.1) c.in_ok-case.ensures ∙ ap (λ a. Some (judged case_data a, s)) c.in-Err.is in
    l.invariant.read
    ∙ bad_there (cases_data l.cases) c.args.depth l.reader going.0 few fault s c.pass_items-in-Err.new.reader is
    c.in_ok-pass_items-in-Err.ensures.passed

pub returns : goal.returns
returns c =
    let l = c.cases in
    let r = c.take_end_array.new.self in
    let over : after_end_array l.reader ≡ Some r = grind arith in
    l.invariant.read ∙ array_ends (cases_from (cases_data l.cases)) c.args.depth l.reader r over
