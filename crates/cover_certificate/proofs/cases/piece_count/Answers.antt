use Rattle.cover_certificate.proofs.Common.{◌≡◌, ℕ, CaseData, ◌+◌, ◌<◌, ◌≤◌, ◌∷◌, [], length, length-map, map, take, get_or, sym, ap, ◌∙◌, subst, arith, map-append, take_more, case_data, piece_data, pieces_of}
use Rattle.std.proofs.lemmas.List.{take-map}
use Rattle.std.proofs.lemmas.List.Sums.{sum_by_push, sum_by-take-le}
use Rattle.cover_certificate.proofs.cases.piece_count.Goals as goal

pub overflow_add-count : goal.overflow_add-count
overflow_add-count c =
    let cases = c.args.cases.now in
    let i = c.loop-case.case-index in
    let case = c.case-item.result in
    let within : i < length cases = omega arith in
    let pieces : CaseData → ℕ = λ k. length k.pieces in
    let grown : pieces_of (map case_data (take (i + 1) cases))
    ≡ pieces_of (map case_data (take i cases)) + length (case_data (get_or cases i case)).pieces =
    ap (λ cs. pieces_of (map case_data cs)) (take_more cases i case within)
    ∙ ap pieces_of (map-append case_data (take i cases) (get_or cases i case ∷ []))
    ∙ sum_by_push pieces (map case_data (take i cases)) (case_data (get_or cases i case)) in
    let most : pieces_of (map case_data (take (i + 1) cases)) ≤ pieces_of (map case_data cases) =
    subst (λ cs. pieces_of cs ≤ pieces_of (map case_data cases)) (take-map case_data (i + 1) cases)
    (sum_by-take-le pieces (map case_data cases) (i + 1)) in
    let same : get_or cases i case ≡ case = sym c.case-item.is in
    let len : length case.pieces.items ≡ c.len-count.result = grind (arith, c.len-count.ensures) in
    let sized : length (case_data (get_or cases i case)).pieces ≡ c.len-count.result =
    ap (λ k. length (case_data k).pieces) same ∙ length-map case.pieces.items piece_data ∙ len in
    omega (arith, c.loop-case.invariant.counted, c.requires)
