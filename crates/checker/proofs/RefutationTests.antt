-- What a refutation says, and its tests.
use Rattle.checker.proofs.Common.{◌≡◌, ◌≢◌, ℕ, zero, suc, ℤ, ◌-ℤ◌, ◌≤ℤ◌, ◌<ℤ◌, Bool, true, false, true≢false, ◌||◌, List, [], ◌∷◌, length, refl, sym, ◌∙◌, arith, ◌==◌, All, AllPairs, list_any, list_all, slice_index_or, ints, nat_tests, list_any_none, AllPass-from_list_all, list_all-from_AllPass, RefutationData, ClaimData, Exchange, request_start, reply_end, is_liar, Admits, IsAgainst, IsRefuted, admits, allows, are_different, is_against, is_refuted, or_parts, and_parts, or_rest, int_le-true, le-int_le, int_lt-true, ltb-true, lt-ltb, leb-true, le-leb, not-true}
use Rattle.std.specs.Prelude.{int_lt, nat_lt}

-- ---- the tests of a refutation

either_to : (a b : Bool) → (a ≡ false → b ≡ true) → (a || b) ≡ true
either_to true b h = refl
either_to false b h = h refl

lt_to : (a b : ℤ) → a <ℤ b → int_lt a b ≡ true
lt_to a b h = grind (arith, ints)

shifted : (a b e : ℤ) → (a -ℤ e) ≤ℤ (b -ℤ e) → a ≤ℤ b
shifted a b e h = omega (arith, ints)

pub admits_from : (allowance error : ℤ) (x : Exchange) → admits allowance error x ≡ true → Admits allowance error x
admits_from allowance error x e =
    let (client, server) = and_parts _ _ e in
    let (c2, c3) = and_parts _ _ client in
    let (c1, c2) = and_parts _ _ c2 in
    let (s2, s3) = and_parts _ _ server in
    let (s1, s2) = and_parts _ _ s2 in
    let w = request_start x allowance in
    let z = reply_end x allowance in
    record {
      leaves_before_receipt = int_le-true _ _ c1;
      leaves_before_answer = int_le-true _ _ c2;
      leaves_before_arrival = shifted w z error (int_le-true _ _ c3);
      receives_before_answer = int_le-true _ _ s1;
      receives_before_arrival = int_le-true _ _ s2;
      answers_before_arrival = int_le-true _ _ s3;
    }

pub admits_to : (allowance error : ℤ) (x : Exchange) → Admits allowance error x → admits allowance error x ≡ true
admits_to allowance error x h = grind (arith, ints, nat_tests, le-int_le)

-- ---- numbers that differ

not_any : (x : ℕ) (xs : List ℕ) → list_any (λ y. y == x) xs ≡ false → All (λ y. y ≢ x) xs
not_any x [] e k d below = absurd (omega arith)
not_any x (y ∷ ys) e zero d below = λ same. let parts = or_parts (y == x) _ e in grind (arith, nat_tests)
not_any x (y ∷ ys) e (suc k) d below = let parts = or_parts (y == x) _ e in not_any x ys parts.1 k d (omega arith)

differ_from : (xs : List ℕ) → are_different xs ≡ true → AllPairs (λ a b. a ≢ b) xs
differ_from [] e i j d before below = absurd (omega arith)
differ_from (x ∷ xs) e zero zero d before below = absurd (omega arith)
differ_from (x ∷ xs) e zero (suc j) d before below = grind (arith, ints, nat_tests, not_any, not-true)
differ_from (x ∷ xs) e (suc i) zero d before below = absurd (omega arith)
differ_from (x ∷ xs) e (suc i) (suc j) d before below =
    differ_from xs (and_parts _ _ e).1 i j d (omega arith) (omega arith)

apart_fails : (x y : ℕ) → x ≢ y → (y == x) ≡ false
apart_fails x y apart = grind (arith, nat_tests)

differ_to : (xs : List ℕ) → AllPairs (λ a b. a ≢ b) xs → are_different xs ≡ true
differ_to [] differ = refl
differ_to (x ∷ xs) differ =
    grind (
      arith,
      list_any_none (λ y. y == x) xs (λ k d below. apart_fails x (slice_index_or xs k d)
          (differ 0 (suc k) d (omega arith) (omega arith))),
      differ_to xs (λ i j d before below. differ (suc i) (suc j) d
          (omega arith) (omega arith)),
    )

-- ---- what is said by the refutation itself

pub against_from : (claim : ClaimData) (r : RefutationData) → is_against claim r ≡ true → IsAgainst claim r
against_from claim r e =
    let (outside, false') = and_parts _ _ e in
    let (o2, o3) = and_parts _ _ outside in
    let (o1, o2) = and_parts _ _ o2 in
    let (f2, f3) = and_parts _ _ false' in
    let (f1, f2) = and_parts _ _ f2 in
    record {
      beyond_bound = int_lt-true _ _ o1;
      in_span = (int_le-true _ _ o2, int_le-true _ _ o3);
      liars_listed = λ k d below. ltb-true _ _ (AllPass-from_list_all _ r.liars f1 k d below);
      liars_differ = differ_from r.liars f2;
      few_false = leb-true _ _ f3;
    }

pub against_to : (claim : ClaimData) (r : RefutationData) → IsAgainst claim r → is_against claim r ≡ true
against_to claim r h =
    let listed : list_all (λ liar. nat_lt liar (length claim.servers)) r.liars ≡ true =
    list_all-from_AllPass _ r.liars (λ k d below. lt-ltb _ _ (h.liars_listed k d below)) in
    rw (
      lt_to _ _ h.beyond_bound,
      le-int_le _ _ h.in_span.0,
      le-int_le _ _ h.in_span.1,
      listed,
      differ_to r.liars h.liars_differ,
      le-leb _ _ h.few_false,
    ) refl

-- ---- the whole

pub refuted_from : (claim : ClaimData) (xs : List Exchange) (r : RefutationData) → is_refuted claim xs r ≡ true
    → IsRefuted claim xs r
refuted_from claim xs r e =
    let (against, all) = and_parts _ _ e in
    record {
      against = against_from claim r against;
      admits = λ k d below true'.
          admits_from claim.reading r.error (slice_index_or xs k d)
          (or_rest _ _ (AllPass-from_list_all _ xs all k d below) true');
    }

pub refuted_to : (claim : ClaimData) (xs : List Exchange) (r : RefutationData) → IsRefuted claim xs r
    → is_refuted claim xs r ≡ true
refuted_to claim xs r h =
    let all : list_all (allows claim.reading r) xs ≡ true =
    list_all-from_AllPass _ xs
    (λ k d below. either_to (is_liar r.liars (slice_index_or xs k d).server) _
    (λ true'. admits_to claim.reading r.error (slice_index_or xs k d) (h.admits k d below true'))) in
    rw (against_to claim r h.against, all) refl

pub refused_by_test : (claim : ClaimData) (xs : List Exchange) (r : RefutationData) → is_refuted claim xs r ≡ false
    → ¬ (IsRefuted claim xs r)
refused_by_test claim xs r fails h = true≢false (sym (refuted_to claim xs r h) ∙ fails)

pub ruleset admitted_by_test = (admits_from, admits_to)

pub ruleset refuted_by_test = (refuted_from, refuted_to)
