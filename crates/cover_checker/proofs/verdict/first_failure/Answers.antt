use Rattle.std.proofs.Common.{◌≡◌, ◌<◌, ◌≤◌, None, List, [], ap, arith, length, map, subst, sym, ◌∙◌}
use Rattle.std.proofs.lemmas.Bool.Decides.{nat_tests}
use Rattle.std.proofs.lemmas.List.{length-map}
use Rattle.std.specs.List.{All}
use Rattle.certificate.specs.Certificate.{max_pieces}
use Rattle.claim_file.specs.Claim.{data_of as claim_data}
use Rattle.cover_certificate.specs.CoverCertificate.{case_data, data_of as certificate_data}
use Rattle.cover_certificate.specs.declared.cover_certificate.Case.{Case}
use Rattle.cover_checker.proofs.Acceptance.{accepted}
use Rattle.cover_checker.proofs.CaseFaults.{few_of_each, fit_groups_have_bits}
use Rattle.cover_checker.specs.Case.{cases_why}
use Rattle.cover_checker.specs.Conflict.{IsConflict}
use Rattle.cover_checker.specs.Verdict.{case_faults}
use Rattle.cover_checker.proofs.verdict.first_failure.Goals as goal

abbrev HaveBits : List Case → Type 0
HaveBits cases = All (λ (case : Case). All (λ g. g < 32) case.groups.items) cases

some_case : (cases : List Case) → 0 < length cases → 0 < length (map case_data cases)
some_case cases some = omega (arith, length-map cases case_data)

pub unanswered-requires-clause-listed : goal.unanswered-requires-clause-listed
unanswered-requires-clause-listed g c =
    let fit : cases_why (claim_data c.args.claim.now) [] (map case_data c.as_slice-cases.result.now) ≡ None =
    sym c.first_bad_case.ensures ∙ c.in_default-first_bad_case.is in
    subst HaveBits c.as_slice-cases.ensures.value
    (fit_groups_have_bits (claim_data c.args.claim.now) c.as_slice-cases.result.now c.args.claim.now.lawful.few_servers
    fit)

pub first_bad_piece-requires-clause-pieces : goal.first_bad_piece-requires-clause-pieces
first_bad_piece-requires-clause-pieces g c =
    subst (λ (cases : List Case). All (λ (case : Case). length case.pieces.items ≤ max_pieces) cases)
    (sym c.as_slice-cases.ensures.value)
    (few_of_each max_pieces c.args.certificate.now.cases.items c.requires.few.pieces)

pub first_bad_piece-requires-clause-listed : goal.first_bad_piece-requires-clause-listed
first_bad_piece-requires-clause-listed g c =
    let fit : cases_why (claim_data c.args.claim.now) [] (map case_data c.as_slice-cases.result.now) ≡ None =
    sym c.first_bad_case.ensures ∙ c.in_default-first_bad_case.is in
    fit_groups_have_bits (claim_data c.args.claim.now) c.as_slice-cases.result.now c.args.claim.now.lawful.few_servers fit

pub returns-in-None : goal.returns-in-None
returns-in-None g c =
    let claim = claim_data c.args.claim.now in
    let xs = map g.X.ToExchange.shown c.args.exchanges.now in
    let back = sym c.as_slice-cases.ensures.value in
    let some : 0 < length c.as_slice-cases.result.now =
    grind (arith, nat_tests, c.is_empty.ensures, c.if-is_empty.false) in
    let fit = sym c.first_bad_case.ensures ∙ c.in_default-first_bad_case.is in
    let none = sym c.first_bad_piece.ensures ∙ c.in-None.is in
    accepted (record { hull = c.every_list_has_a_hull.ensures; one = c.hull_is_one_answer.ensures }) claim xs
    (certificate_data c.args.certificate.now)
    (subst (All (IsConflict claim xs)) c.as_slice.ensures.value c.in_default.ensures)
    (some_case c.args.certificate.now.cases.items (subst (λ (l : List Case). 0 < length l) (sym back) some))
    (ap (λ (l : List Case). cases_why claim [] (map case_data l)) back ∙ fit)
    c.in_default-unanswered.ensures
    (ap (λ (l : List Case). case_faults claim xs 0 (map case_data l)) back ∙ none)
