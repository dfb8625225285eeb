-- The cases of a certificate by covers, read one after another.
use Rattle.std.proofs.lemmas.Int.{ints}
use Rattle.cover_certificate.proofs.Common.{◌≡◌, ℕ, ap₂, map, length-map, Option, Case, case_data, ◌+◌, ◌<◌, ◌≤◌, List, [], ◌∷◌, ◌++◌, length, Some, None, Result, Ok, Err, refl, sym, ap, ◌∙◌, arith, nat_tests, left_some, Data, Items, item, items_len, parse_map, after_end_array, Token, mapped_same, element_read, element_refused, goes_on, next_value, next_items, rest_after, CoverFault, TooManyCases, max_pieces, pieces_in, codes, groups_in, items_at, members_among, nat_le, subst, CaseData, case_of, cases_from, max_cases, pieces_of, lt-ltb, leb-true}
use Rattle.cover_certificate.proofs.Limits.{pieces_from-readable}
use Rattle.std.proofs.lemmas.List.Sums.{sum_by_push}
use Rattle.json_text.proofs.Steps.{after_by, asked_by, given_by}

-- the case that comes next
abbrev pub next_case : List CaseData → Data → Result CaseData CoverFault
next_case before value = case_of (length before) (pieces_of before) value

-- the same, of the program's cases and numbers
pub next_is : (cases : List Case) (n f : ℕ) → n ≡ length cases → f ≡ pieces_of (map case_data cases) →
    (found : Option (Data × List Token)) →
    parse_map (next_case (map case_data cases)) found ≡ parse_map (case_of n f) found
next_is cases n f n_is f_is found =
    ap₂ (λ a b. parse_map (case_of a b) found) (length-map cases case_data ∙ sym n_is) (sym f_is)

cases_full : (before : List CaseData) (value : Data) (rest : Items) → length before ≡ max_cases →
    cases_from before (item value rest) ≡ Err TooManyCases
cases_full before value rest full = grind (arith, ints, nat_tests)

cases_bad : (before : List CaseData) (value : Data) (rest : Items) (fault : CoverFault) →
    length before < max_cases → next_case before value ≡ Err fault →
    cases_from before (item value rest) ≡ Err fault
cases_bad before value rest fault few bad = rw (lt-ltb (length before) max_cases few, bad) refl

cases_good : (before : List CaseData) (value : Data) (rest : Items) (case : CaseData) →
    length before < max_cases → next_case before value ≡ Ok case →
    cases_from before (item value rest) ≡ cases_from (before ++ case ∷ []) rest
cases_good before value rest case few good = rw (lt-ltb (length before) max_cases few, good) refl

-- ---- a turn of the reading

module _ (before : List CaseData) (depth : ℕ) (ts : List Token) (going : after_end_array ts ≡ None) where
  pub full_there : (r : List Token) → length before ≡ max_cases → rest_after (next_items depth ts) ≡ Some r →
      parse_map (cases_from before) (next_items depth ts) ≡ Some (Err TooManyCases, r)
  full_there r full is =
      let (v, rest, read) = goes_on (cases_from before) depth ts r going is in
      read ∙ ap (λ e. Some (e, r)) (cases_full before v rest full)

  module _ (few : length before < max_cases) where
    pub case_refused : parse_map (next_case before) (next_value depth ts) ≡ None →
        parse_map (cases_from before) (next_items depth ts) ≡ None
    case_refused is = element_refused (cases_from before) depth ts (next_case before) going is

    pub bad_there : (fault : CoverFault) (s r : List Token) →
        parse_map (next_case before) (next_value depth ts) ≡ Some (Err fault, s) →
        rest_after (next_items depth s) ≡ Some r →
        parse_map (cases_from before) (next_items depth ts) ≡ Some (Err fault, r)
    bad_there fault s r is over =
        let (v, same, more) = element_read (cases_from before) depth ts (next_case before) (Err fault) s going is in
        let (rest, left) = left_some (next_items depth s) r over in
        more ∙ ap (parse_map (λ rest. cases_from before (item v rest))) left
        ∙ ap (λ e. Some (e, r)) (cases_bad before v rest fault few same)

    pub bad_refused : (fault : CoverFault) (s : List Token) →
        parse_map (next_case before) (next_value depth ts) ≡ Some (Err fault, s) →
        next_items depth s ≡ None →
        parse_map (cases_from before) (next_items depth ts) ≡ None
    bad_refused fault s is over =
        let (v, same, more) = element_read (cases_from before) depth ts (next_case before) (Err fault) s going is in
        more ∙ ap (parse_map (λ rest. cases_from before (item v rest))) over

    pub good_there : (case : CaseData) (s : List Token) →
        parse_map (next_case before) (next_value depth ts) ≡ Some (Ok case, s) →
        parse_map (cases_from before) (next_items depth ts)
        ≡ parse_map (cases_from (before ++ case ∷ [])) (next_items depth s)
    good_there case s is =
        let (v, same, more) = element_read (cases_from before) depth ts (next_case before) (Ok case) s going is in
        more ∙ mapped_same (λ rest. cases_from before (item v rest)) (cases_from (before ++ case ∷ []))
        (λ rest. cases_good before v rest case few same) (next_items depth s)

-- ---- how many pieces there are

-- with a case that was read there are no more than may be
pub case_counted : (before : List CaseData) (value : Data) (case : CaseData) → next_case before value ≡ Ok case →
    pieces_of (before ++ case ∷ []) ≤ max_pieces
case_counted before value case is =
    let (members, _, e) = given_by _ (members_among (codes "groups" ∷ codes "pieces" ∷ []) value) _ is in
    let (groups, _, f) = given_by _ (items_at (codes "groups") value) _ e in
    let (items, _, g) = given_by _ (items_at (codes "pieces") value) _ f in
    let (named, _, h) = after_by (groups_in (length before) groups) _ g in
    let (pieces, found, k) = after_by (pieces_in (pieces_of before) items) _ h in
    let (fits, from) = asked_by _ (nat_le (pieces_of before + items_len items) max_pieces) _ found in
    let sized = (pieces_from-readable (pieces_of before) items pieces from).0 in
    let most : pieces_of before + items_len items ≤ max_pieces = leb-true _ max_pieces fits in
    let same : ◌≡◌ {A = CaseData} (record { groups = named; pieces = pieces }) case = cc in
    subst (λ c. pieces_of (before ++ c ∷ []) ≤ max_pieces) same
    (rw (sum_by_push (λ c. length c.pieces) before (record { groups = named; pieces = pieces })) (omega arith))
