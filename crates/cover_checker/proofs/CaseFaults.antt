-- What holds of cases with nothing wrong in their groups.
use Rattle.std.proofs.lemmas.List.{length-map}
use Rattle.std.proofs.lemmas.List.Elements.{All-cons, All-weaker}
use Rattle.std.proofs.lemmas.List.Sums.{get_or-le-sum_by}
use Rattle.lemma_base.proofs.List.{All-map_back}
use Rattle.cover_checker.proofs.Common.{◌≡◌, ℕ, ◌<◌, ◌≤◌, Bool, true, false, cond, not, nat_lt, List, [], ◌∷◌, ◌++◌, length, map, Option, Some, None, refl, arith, nat_tests, list_any, ◌==◌, All, All-nil, CaseData, ClaimData}
use Rattle.cover_checker.specs.Case.{case_why, cases_why, groups_why, or_else}
use Rattle.certificate.specs.Certificate.{piece_data}
use Rattle.std.specs.List.{sum_by}
use Rattle.cover_certificate.specs.CoverCertificate.{case_data}
use Rattle.cover_certificate.specs.declared.cover_certificate.Case.{Case}
use Rattle.cover_checker.specs.declared.verdict.CaseWhy.{CaseWhy}
use Rattle.cover_checker.specs.declared.verdict.CaseWhy.TheVariants.{NoGroup, RepeatedGroup, TooManyGroups}
use Rattle.cover_checker.proofs.Acceptance.{none_first}

tested_group : (n group : ℕ) (far again : Bool) (rest : Option CaseWhy) → not (nat_lt group n) ≡ far
    → cond far (Some NoGroup) (cond again (Some RepeatedGroup) rest) ≡ None → (group < n) × (rest ≡ None)
tested_group n group true again rest is e = absurd cc
tested_group n group false true rest is e = absurd cc
tested_group n group false false rest is e = (grind (arith, nat_tests), e)

groups_listed : (n : ℕ) (earlier groups : List ℕ) → groups_why n earlier groups ≡ None → All (λ g. g < n) groups
groups_listed n earlier [] e = All-nil (λ g. g < n)
groups_listed n earlier (group ∷ groups) e =
    let step = tested_group n group _ (list_any (λ g. g == group) earlier)
    (groups_why n (earlier ++ group ∷ []) groups) refl e in
    All-cons (λ g. g < n) group groups step.0 (groups_listed n (earlier ++ group ∷ []) groups step.1)

tested_case : (many : Bool) (groups next : Option CaseWhy)
    → cond many (Some TooManyGroups) (or_else groups next) ≡ None → groups ≡ None
tested_case true groups next e = absurd cc
tested_case false None next e = refl
tested_case false (Some why) next e = absurd cc

pub cases_listed : (claim : ClaimData) (before cases : List CaseData) → cases_why claim before cases ≡ None
    → All (λ case. All (λ g. g < length claim.servers) case.groups) cases
cases_listed claim before [] e = All-nil (λ case. All (λ g. g < length claim.servers) case.groups)
cases_listed claim before (case ∷ cases) e =
    let step = none_first (length before) (case_why claim before case) _ e in
    All-cons (λ case. All (λ g. g < length claim.servers) case.groups) case cases
    (groups_listed (length claim.servers) [] case.groups
    (tested_case (nat_lt claim.false_max (length case.groups)) _ _ step.0))
    (cases_listed claim (before ++ case ∷ []) cases step.1)

-- the groups of the program's cases have bits
pub groups_have_bits : (n : ℕ) (cases : List Case) → n ≤ 32
    → All (λ case. All (λ g. g < n) case.groups) (map case_data cases)
    → All (λ case. All (λ g. g < 32) case.groups.items) cases
groups_have_bits n cases few all =
    All-weaker (λ (case : Case). All (λ g. g < n) case.groups.items) (λ (case : Case). All (λ g. g < 32) case.groups.items)
    (λ case each. All-weaker (λ g. g < n) (λ g. g < 32) (λ g below. omega arith) case.groups.items each) cases
    (All-map_back (λ (case : CaseData). All (λ g. g < n) case.groups) case_data cases all)

-- no case has more pieces than all together
pub few_of_each : (m : ℕ) (cases : List Case)
    → sum_by (λ (case : CaseData). length case.pieces) (map case_data cases) ≤ m
    → All (λ case. length case.pieces.items ≤ m) cases
few_of_each m cases few =
    let each : All (λ (case : CaseData). length case.pieces ≤ m) (map case_data cases) =
    λ k d below. omega
    (arith, get_or-le-sum_by (λ (case : CaseData). length case.pieces) (map case_data cases) k d below) in
    All-weaker (λ (case : Case). length (map piece_data case.pieces.items) ≤ m)
    (λ (case : Case). length case.pieces.items ≤ m)
    (λ case le. omega (arith, length-map case.pieces.items piece_data)) cases
    (All-map_back (λ (case : CaseData). length case.pieces ≤ m) case_data cases each)

-- so have those of cases with nothing wrong
pub fit_groups_have_bits : (claim : ClaimData) (cases : List Case) → length claim.servers ≤ 32
    → cases_why claim [] (map case_data cases) ≡ None → All (λ case. All (λ g. g < 32) case.groups.items) cases
fit_groups_have_bits claim cases few fit =
    groups_have_bits (length claim.servers) cases few (cases_listed claim [] (map case_data cases) fit)
