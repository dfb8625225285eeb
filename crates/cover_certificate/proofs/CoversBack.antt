-- What was written of a certificate by covers is read again.
use Rattle.std.proofs.lemmas.Int.{ints}
use Rattle.cover_certificate.proofs.Common.{◌≡◌, ℕ, suc, ◌+◌, ◌<◌, ◌≤◌, ◌^◌, ◌++◌, List, [], ◌∷◌, length, map, Some, Ok, refl, sym, ap, arith, append-nil, append_assoc, length-append, lt-ltb, le-leb, All, items_of, given, parsed, max_pieces, nat_tests, each_of, number_value, entry_value, piece_value, CaseData, CoverCertificateData, case_of, cases_from, covers_from, covers_of, group_of, max_cases, max_conflicts, pieces_of, IsFew, IsHeldCase, IsHeldCovers, case_value, covers_value}
use Rattle.std.proofs.lemmas.List.Elements.{All-tail}
use Rattle.std.proofs.lemmas.List.Sums.{sum_by-append, sum_by_push}
use Rattle.cover_certificate.proofs.ReadBack.{entries_of-values, items_len-map, pieces_from-values}

group_of-value : (n : ℕ) → n < 2 ^ 8 → group_of (number_value n) ≡ Some n
group_of-value n small = rw (lt-ltb n (2 ^ 8) small) refl

groups_of-values : (groups : List ℕ) → All (λ group. group < 2 ^ 8) groups →
    each_of group_of (items_of (map number_value groups)) ≡ Some groups
groups_of-values [] named = refl
groups_of-values (g ∷ gs) named =
    rw (
      group_of-value g (named 0 g (omega arith)),
      groups_of-values gs (All-tail (λ group. group < 2 ^ 8) g gs named),
    ) refl

case_of-value : (number first : ℕ) (case : CaseData) → IsHeldCase case → first + length case.pieces ≤ max_pieces →
    case_of number first (case_value case) ≡ Ok case
case_of-value number first case held few =
    rw (
      items_len-map number_value case.groups,
      le-leb (length case.groups) 32 held.few,
      groups_of-values case.groups held.named,
      items_len-map piece_value case.pieces,
      le-leb (first + length case.pieces) max_pieces few,
      pieces_from-values first case.pieces (λ k d less. (held.pieces k d less).readable),
    ) refl

cases_from-values : (before cases : List CaseData) → All IsHeldCase cases → length (before ++ cases) ≤ max_cases →
    pieces_of (before ++ cases) ≤ max_pieces →
    cases_from before (items_of (map case_value cases)) ≡ Ok (before ++ cases)
cases_from-values before [] held few short = ap Ok (sym (append-nil before))
cases_from-values before (c ∷ cs) held few short =
    let pieces : CaseData → ℕ = λ k. length k.pieces in
    let again : (before ++ c ∷ []) ++ cs ≡ before ++ c ∷ cs = append_assoc before (c ∷ []) cs in
    let count : length (before ++ c ∷ cs) ≡ length before + suc (length cs) = length-append before (c ∷ cs) in
    let there : length before < max_cases = omega (arith, few) in
    let grown : pieces_of (before ++ c ∷ []) ≡ pieces_of before + length c.pieces = sum_by_push pieces before c in
    let whole : pieces_of ((before ++ c ∷ []) ++ cs) ≡ pieces_of (before ++ c ∷ []) + pieces_of cs =
    sum_by-append pieces (before ++ c ∷ []) cs in
    let total : pieces_of ((before ++ c ∷ []) ++ cs) ≤ max_pieces = rw again short in
    rw (
      lt-ltb (length before) max_cases there,
      case_of-value (length before) (pieces_of before) c (held 0 c (omega arith)) (omega arith),
      cases_from-values (before ++ c ∷ []) cs (All-tail IsHeldCase c cs held) (rw again few) total,
      again,
    ) refl

covers_from-value : (certificate : CoverCertificateData) → IsFew certificate → IsHeldCovers certificate →
    covers_from (covers_value certificate) ≡ Ok certificate
covers_from-value certificate few held =
    rw (
      items_len-map entry_value certificate.conflicts,
      le-leb (length certificate.conflicts) max_conflicts few.conflicts,
      entries_of-values certificate.conflicts held.conflicts,
      cases_from-values [] certificate.cases held.cases few.cases few.pieces,
    ) refl

-- what a text of this value says
pub covers_of-read : (bytes : List ℕ) (certificate : CoverCertificateData) →
    parsed bytes ≡ Some (covers_value certificate) → IsFew certificate → IsHeldCovers certificate →
    covers_of bytes ≡ Ok certificate
covers_of-read bytes certificate is few held = grind (arith, ints, nat_tests, given, covers_from-value)
