-- What is read of a certificate by covers keeps its limits.
use Rattle.cover_certificate.proofs.Common.{◌≡◌, ℕ, ◌<◌, ◌≤◌, ◌++◌, List, [], ◌∷◌, length, nat_le, Ok, subst, arith, leb-true, length-append, codes, Items, no_items, item, items_len, members_among, items_at, parsed, entries_of, CaseData, CoverCertificateData, IsFew, cases_from, conflicts_in, covers_of, max_cases, max_conflicts, max_pieces, pieces_of}
use Rattle.cover_certificate.proofs.CasesRead.{case_counted, next_case}
use Rattle.cover_certificate.proofs.Limits.{entries_of-names}
use Rattle.std.specs.Bool.{nat_lt}
use Rattle.std.proofs.lemmas.Bool.{ltb-true}
use Rattle.json_text.proofs.Steps.{after_by, asked_by, given_by}

cases_from-few : (before : List CaseData) (items : Items) (cases : List CaseData) → cases_from before items ≡ Ok cases →
    length before ≤ max_cases → pieces_of before ≤ max_pieces →
    (length cases ≤ max_cases) × (pieces_of cases ≤ max_pieces)
cases_from-few before no_items cases is few short =
    let same : ◌≡◌ {A = List CaseData} before cases = cc in
    subst (λ cs. (length cs ≤ max_cases) × (pieces_of cs ≤ max_pieces)) same (few, short)
cases_from-few before (item value rest) cases is few short =
    let (there, e) = asked_by _ (nat_lt (length before) max_cases) _ is in
    let (case, good, f) = after_by (next_case before value) _ e in
    let less : length before < max_cases = ltb-true (length before) max_cases there in
    cases_from-few (before ++ case ∷ []) rest cases f (rw (length-append before (case ∷ [])) (omega arith))
    (case_counted before value case good)

pub covers_of-few : (bytes : List ℕ) (certificate : CoverCertificateData) → covers_of bytes ≡ Ok certificate →
    IsFew certificate
covers_of-few bytes certificate is =
    let (value, _, e) = given_by _ (parsed bytes) _ is in
    let (members, _, f) = given_by _ (members_among (codes "cases" ∷ codes "conflicts" ∷ []) value) _ e in
    let (conflicts, _, g) = given_by _ (items_at (codes "conflicts") value) _ f in
    let (items, _, h) = given_by _ (items_at (codes "cases") value) _ g in
    let (pairs, read, k) = after_by (conflicts_in conflicts) _ h in
    let (cases, from, m) = after_by (cases_from [] items) _ k in
    let (fits, named) = asked_by _ (nat_le (items_len conflicts) max_conflicts) _ read in
    let (entries, names, n) = given_by _ (entries_of conflicts) _ named in
    let most : items_len conflicts ≤ max_conflicts = leb-true (items_len conflicts) max_conflicts fits in
    let sized = (entries_of-names conflicts entries names).0 in
    let are : ◌≡◌ {A = List (ℕ × ℕ)} entries pairs = cc in
    let few = cases_from-few [] items cases from (omega arith) (omega arith) in
    let same : ◌≡◌ {A = CoverCertificateData} (record { conflicts = pairs; cases = cases }) certificate = cc in
    subst IsFew same (record {
      conflicts = subst (λ ps. length ps ≤ max_conflicts) are (omega arith);
      cases = few.0;
      pieces = few.1;
    })
