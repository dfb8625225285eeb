-- A refutation whose liars are the servers of some groups: it stands exactly if these are a cover, and its own
-- mark is compatible with those of the other groups.
use Rattle.feasibility.proofs.Common.{rules, eq-eqb, eqb-true, ◌≡◌, ℕ, ◌+◌, ◌<◌, ◌≤◌, Bool, false, cond, not, List, [], ◌∷◌, length, slice_get, Some, refl, sym, ap, ap₂, ◌∙◌, subst, arith, All, ◌==◌, ◌↔◌, IsTrue, nat_tests, All-head, All-tail, All-map, slice_get_within, RefutationData, is_liar, IsAgainst, ClaimData, IsConflictTable, ConflictData, IsCover, is_of, servers_of, IsCompatibleWith, IsRefutedWithDrift, mark_of, true_exchanges, DoAgree, low_mark, high_mark, AreCompatible, Mark, IsLawful as IsLawfulExchange, Exchange, numbers_below, by_test, All-map_back}
use Rattle.std.proofs.lemmas.Map.Views.{any-filter_same}
use Rattle.checker.proofs.Counting.{found_below}
use Rattle.claim_file.specs.Claim.{IsLawful}
use Rattle.feasibility.proofs.ConflictTables.{by_table, from_table}
use Rattle.feasibility.proofs.Covers.{agree_outside, cover_by_agreement}
use Rattle.feasibility.proofs.TableCovers.{from_table as to_conflicts, to_table}
use Rattle.feasibility.proofs.TrueExchanges.{all_true}

-- ---- the servers of groups

module _ (claim : ClaimData) (is_in : ℕ → Bool) where
  -- just these are liars
  liars_are : (server : ℕ) → server < length claim.servers
      → is_liar (servers_of claim is_in) server ≡ is_of claim is_in server
  liars_are server below =
      let listed = found_below (λ k. k == server) (length claim.servers) server below (eq-eqb server server refl) in
      any-filter_same (λ k. k == server) (is_of claim is_in) (is_of claim is_in server)
      (λ k e. ap (is_of claim is_in) (eqb-true k server e)) (numbers_below (length claim.servers))
      ∙ grind (arith, nat_tests)

-- the same exchanges are true by two tests that are the same of their servers
same_true : (f g : ℕ → Bool) (xs : List Exchange) → All (λ x. f x.server ≡ g x.server) xs
    → true_exchanges f xs ≡ true_exchanges g xs
same_true f g [] same = refl
same_true f g (x ∷ xs) same =
    ap₂ (λ b ys. cond (not b) (x ∷ ys) ys) (All-head (λ x. f x.server ≡ g x.server) x xs same)
    (same_true f g xs (All-tail (λ x. f x.server ≡ g x.server) x xs same))

-- ---- the refutation

module _ (claim : ClaimData) (xs : List Exchange) (lawful : IsLawful claim)
    (each : All (IsLawfulExchange (length claim.servers)) xs) (d : ConflictData)
    (groups : d.groups ≡ length claim.groups) (table : IsConflictTable claim xs d.is_broken d.is_edge)
    (is_in : ℕ → Bool) (r : RefutationData) (liars : r.liars ≡ servers_of claim is_in) where
  abbrev outside : List Exchange
  outside = true_exchanges (is_of claim is_in) xs

  same : true_exchanges (is_liar r.liars) xs ≡ outside
  same =
      ap (λ (ls : List ℕ). true_exchanges (is_liar ls) xs) liars
      ∙ same_true (is_liar (servers_of claim is_in)) (is_of claim is_in) xs
      (λ k x below. liars_are claim is_in _ (each k x below).listed)

  -- what holds of the one holds of the other
  agree_by : (f g : ℕ → Bool) → true_exchanges f xs ≡ true_exchanges g xs → DoAgree claim f xs → DoAgree claim g xs
  agree_by f g is agree = search rules

  stands_from : IsAgainst claim r → IsCover d is_in → All (IsCompatibleWith claim (mark_of r)) outside
      → IsRefutedWithDrift claim xs r
  stands_from against cover own =
      let covers = from_table claim xs lawful each d.is_broken d.is_edge table is_in
      (to_table claim d groups is_in cover) in
      let own_here = subst (All (IsCompatibleWith claim (mark_of r))) (sym same) own in
      record {
        against = against;
        agree = agree_by (is_of claim is_in) (is_liar r.liars) (sym same) (agree_outside claim xs is_in covers);
        reading_low = All-map (AreCompatible claim.drift_ppb (mark_of r)) (high_mark claim.reading)
            (true_exchanges (is_liar r.liars) xs) (λ k x below. (own_here k x below).as_low);
        reading_high = All-map (λ low. AreCompatible claim.drift_ppb low (mark_of r)) (low_mark claim.reading)
            (true_exchanges (is_liar r.liars) xs) (λ k x below. (own_here k x below).as_high);
      }

  module _ (refuted : IsRefutedWithDrift claim xs r) where
    covered : IsCover d is_in
    covered = to_conflicts claim d groups is_in (by_table claim xs lawful each d.is_broken d.is_edge table is_in
        (cover_by_agreement claim xs is_in (agree_by (is_liar r.liars) (is_of claim is_in) same refuted.agree)))

    own_fits : All (IsCompatibleWith claim (mark_of r)) outside
    own_fits =
        let low = All-map_back (AreCompatible claim.drift_ppb (mark_of r)) (high_mark claim.reading)
        (true_exchanges (is_liar r.liars) xs) refuted.reading_low in
        let high = All-map_back (λ low. AreCompatible claim.drift_ppb low (mark_of r)) (low_mark claim.reading)
        (true_exchanges (is_liar r.liars) xs) refuted.reading_high in
        rw (← same) (λ k x below. record { as_low = low k x below; as_high = high k x below })

  -- so it is refuted exactly if the groups are a cover and leave the mark
  pub settled : (mark : Mark) → mark ≡ mark_of r → IsAgainst claim r → (left : Bool)
      → (IsTrue left ↔ (IsCover d is_in × All (IsCompatibleWith claim mark) outside))
      → (IsTrue left ↔ IsRefutedWithDrift claim xs r)
  settled mark is against left tells = (
    λ holds. let both = tells.0 holds in stands_from against both.0 (rw (← is) both.1),
    λ refuted. tells.1 (covered refuted, rw is (own_fits refuted)),
  )

-- ---- the pass over the exchanges

module _ (claim : ClaimData) (mark : Mark) (is_in : ℕ → Bool) (xs : List Exchange) where
  -- the mark is compatible with the true ones of the first so many
  abbrev pub IsHeldTo : ℕ → Type 0
  IsHeldTo n = (k : ℕ) (x : Exchange) → k < n → slice_get xs k ≡ Some x → is_of claim is_in x.server ≡ false
      → IsCompatibleWith claim mark x

  pub one_more : (n : ℕ) (x : Exchange) → slice_get xs n ≡ Some x
      → (is_of claim is_in x.server ≡ false → IsCompatibleWith claim mark x) → IsHeldTo n → IsHeldTo (n + 1)
  one_more n x at here before k y below at_k outside' = by_test (k == n)
      (λ test.
      let same : k ≡ n = grind (arith, nat_tests) in
      let both : Some x ≡ Some y = sym at ∙ subst (λ (i : ℕ). slice_get xs i ≡ Some y) same at_k in
      let is : x ≡ y = cc in
      subst (IsCompatibleWith claim mark) is (here (ap (λ (z : Exchange). is_of claim is_in z.server) is ∙ outside')))
      (λ test. before k y (grind (arith, nat_tests)) at_k outside')

  pub all_held : (n : ℕ) → length xs ≤ n → IsHeldTo n
      → All (IsCompatibleWith claim mark) (true_exchanges (is_of claim is_in) xs)
  all_held n past held = all_true (is_of claim is_in) xs (IsCompatibleWith claim mark)
      (λ k x at outside'. held k x (let within = slice_get_within xs k x at in omega arith) at outside')
