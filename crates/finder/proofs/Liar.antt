-- The servers that a refutation has to name.
use Rattle.finder.proofs.Common.{◌≡◌, ◌≢◌, ℕ, zero, suc, ◌<◌, ◌≤◌, ℤ, pos, ◌<ℤ◌, unsigned_abs, Bool, true, false, true≢false, cond, not, ◌&&◌, List, [], ◌∷◌, ◌++◌, length, get_or, refl, sym, ap, ◌∙◌, arith, ◌==◌, filter, All, AllPairs, Any-from_list_any, list_any, nat_tests, ints, append-nil, All-nil, All-cons, All-append, All-filter, filter-append, RefutationData, ClaimData, IsLawful, Exchange, false_group_count, numbers_below, Admits, IsRefuted, is_liar, admits, refuses, is_possible, refutation_at, by_test, and_parts, and_from, found_below, leb-true, le-leb}
use Rattle.std.proofs.lemmas.List.Folds.{list_any_at}
use Rattle.std.proofs.lemmas.List.Quantifiers.{all_pairs_push}
use Rattle.std.proofs.lemmas.Map.Views.{any-filter_same}
use Rattle.pairing.specs.Exchange.{IsLawful as IsLawfulExchange}
use Rattle.finder.proofs.Group.{as_many_groups, no_more_groups}
use Rattle.checker.proofs.RefutationTests.{admits_from, admits_to}

-- ---- the numbers that pass a test

module _ (p : ℕ → Bool) where
  pub passing_below : (n : ℕ) → All (λ k. k < n) (filter p (numbers_below n))
  passing_below n = All-filter p (λ k. k < n) (numbers_below n) (below n)
    where
      wider : (n : ℕ) (xs : List ℕ) → All (λ k. k < n) xs → All (λ k. k < suc n) xs
      wider n xs all k d within = let less = all k d within in omega (arith, less)

      below : (n : ℕ) → All (λ k. k < n) (numbers_below n)
      below zero = All-nil (λ k. k < 0)
      below (suc n) =
          All-append (λ k. k < suc n) (numbers_below n) (n ∷ []) (wider n (numbers_below n) (below n))
          (All-cons (λ k. k < suc n) n [] (omega arith) (All-nil (λ k. k < suc n)))

  more_passing : (n : ℕ) → p n ≡ true
      → filter p (numbers_below (suc n)) ≡ filter p (numbers_below n) ++ n ∷ []
  more_passing n e = filter-append p (numbers_below n) (n ∷ []) ∙ rw e refl

  same_passing : (n : ℕ) → p n ≡ false → filter p (numbers_below (suc n)) ≡ filter p (numbers_below n)
  same_passing n e = filter-append p (numbers_below n) (n ∷ []) ∙ rw e (append-nil (filter p (numbers_below n)))

  pub passing_differ : (n : ℕ) → AllPairs (λ a b. a ≢ b) (filter p (numbers_below n))
  passing_differ zero = λ i j d before within. absurd (omega arith)
  passing_differ (suc n) = by_test (p n)
      (λ e. rw (more_passing n e)
      (all_pairs_push (λ a b. a ≢ b) (filter p (numbers_below n)) n (passing_differ n)
      (λ k d within same. let less = passing_below n k d within in omega (arith, same, less))))
      (λ e. rw (same_passing n e) (passing_differ n))

  -- the same numbers pass a test that is the same below n
  pub same_passing_test : (q : ℕ → Bool) (n : ℕ) → ((k : ℕ) → k < n → p k ≡ q k)
      → filter p (numbers_below n) ≡ filter q (numbers_below n)
  same_passing_test q zero same = refl
  same_passing_test q (suc n) same =
      filter-append p (numbers_below n) (n ∷ [])
      ∙ ap (λ ks. ks ++ filter p (n ∷ [])) (same_passing_test q n (λ k below. same k (omega arith)))
      ∙ ap (λ b. filter q (numbers_below n) ++ cond b (n ∷ []) []) (same n (omega arith))
      ∙ sym (filter-append q (numbers_below n) (n ∷ []))

  named : (n server : ℕ) → is_liar (filter p (numbers_below n)) server
      ≡ (p server && list_any (λ k. k == server) (numbers_below n))
  named n server = grind (arith, ints, nat_tests, any-filter_same)

  pub named_pass : (n server : ℕ) → is_liar (filter p (numbers_below n)) server ≡ true → p server ≡ true
  named_pass n server e = grind (arith, ints, nat_tests, by_test, named)

  pub pass_named : (n server : ℕ) → server < n → p server ≡ true
      → is_liar (filter p (numbers_below n)) server ≡ true
  pass_named n server below e =
      let here : list_any (λ k. k == server) (numbers_below n) ≡ true =
      found_below (λ k. k == server) n server below (grind (arith, nat_tests)) in
      named n server ∙ rw (e, here) refl

  -- below a number, just those that pass are named
  named_below : (n server : ℕ) → server < n → is_liar (filter p (numbers_below n)) server ≡ p server
  named_below n server below = grind (arith, ints, nat_tests, by_test, pass_named, named)

  -- so as many groups hold a server that is named as one that passes
  pub as_many_named : (groups : List ℕ)
      → false_group_count groups (is_liar (filter p (numbers_below (length groups)))) ≡ false_group_count groups p
  as_many_named groups =
      as_many_groups groups (is_liar (filter p (numbers_below (length groups)))) p
      (λ server below. named_below (length groups) server below)

-- ---- a server refuses an error by one of its exchanges

module _ (allowance error : ℤ) where
  pub refused_at : (xs : List Exchange) (k : ℕ) (d : Exchange) → k < length xs
      → admits allowance error (get_or xs k d) ≡ false
      → refuses allowance xs error (get_or xs k d).server ≡ true
  refused_at xs k d within fails = grind (arith, ints, nat_tests, list_any_at, and_from)

-- ---- a refutation by just the servers that refuse its error

module _ (claim : ClaimData) (lawful : IsLawful claim) (xs : List Exchange)
    (each : All (IsLawfulExchange (length claim.servers)) xs) where
  abbrev refusing : ℤ → List ℕ
  refusing error = filter (refuses claim.reading xs error) (numbers_below (length claim.servers))

  few_named : (error : ℤ) → is_possible claim xs error ≡ true
      → false_group_count claim.groups (is_liar (refusing error)) ≤ claim.false_max
  few_named error possible =
      let fewer = no_more_groups claim.groups (is_liar (refusing error)) (refuses claim.reading xs error)
      (λ server below. named_pass (refuses claim.reading xs error) (length claim.servers) server) in
      omega (arith, fewer, leb-true _ _ possible)

  others_admit : (error : ℤ) → All
      (λ x. is_liar (refusing error) x.server ≡ false → Admits claim.reading error x) xs
  others_admit error k d within not_named = by_test (admits claim.reading error (get_or xs k d))
      (λ e. admits_from claim.reading error (get_or xs k d) e)
      (λ e.
      let refused = refused_at claim.reading error xs k d within e in
      let named = pass_named (refuses claim.reading xs error) (length claim.servers) (get_or xs k d).server
      (each k d within).listed refused in
      absurd (true≢false (sym named ∙ not_named)))

  pub refuted_at : (error : ℤ) → claim.bound <ℤ pos (unsigned_abs error) → is_possible claim xs error ≡ true
      → IsRefuted claim xs (refutation_at claim xs error)
  refuted_at error beyond possible =
      record {
        against = record {
          beyond_bound = beyond;
          in_span = (omega (arith, ints), omega (arith, ints));
          liars_listed = passing_below (refuses claim.reading xs error) (length claim.servers);
          liars_differ = passing_differ (refuses claim.reading xs error) (length claim.servers);
          few_false = few_named error possible;
        };
        admits = others_admit error;
      }

  -- ---- and any other

  named_by : (other : RefutationData) → IsRefuted claim xs other → (server : ℕ)
      → refuses claim.reading xs other.error server ≡ true → is_liar other.liars server ≡ true
  named_by other refuted server refused =
      let one = Any-from_list_any (λ x. (x.server == server) && not (admits claim.reading other.error x)) xs refused in
      let x = one.1 in
      let parts = and_parts (x.server == server) (not (admits claim.reading other.error x)) one.4 in
      let same : x.server ≡ server = grind (arith, nat_tests) in
      by_test (is_liar other.liars server) (λ e. e) (λ e.
      let there : is_liar other.liars x.server ≡ false = ap (is_liar other.liars) same ∙ e in
      let at = one.3 in
      let free : is_liar other.liars (get_or xs one.0 x).server ≡ false = rw at there in
      let room : Admits claim.reading other.error x = rw at at (refuted.admits one.0 x one.2 free) in
      absurd (not_both (admits claim.reading other.error x)
      (admits_to claim.reading other.error x room) parts.1))
    where
      not_both : (b : Bool) → b ≡ true → not b ≡ true → ⊥
      not_both true e f = absurd cc
      not_both false e f = absurd cc

  pub possible_of : (other : RefutationData) → IsRefuted claim xs other → is_possible claim xs other.error ≡ true
  possible_of other refuted =
      let fewer = no_more_groups claim.groups (refuses claim.reading xs other.error) (is_liar other.liars)
      (λ server below. named_by other refuted server) in
      le-leb _ _ (omega (arith, fewer))
