-- The test of a refutation with drift is true exactly if it is accepted.
use Rattle.feasibility.proofs.Common.{◌≡◌, ℕ, ℤ, Bool, true, List, ◌∷◌, refl, sym, ◌∙◌, arith, IsTrue, ◌↔◌, list_all, ints, AllPass-from_list_all, list_all-from_AllPass, RefutationData, is_liar, IsAgainst, ClaimData, IsRefutedWithDrift, mark_of, is_possible, are_compatible, all_compatible, do_agree, is_refuted_with_drift, true_exchanges, low_marks, high_marks, AreAllCompatible, IsPossible, AreCompatible, Mark, Exchange, and_parts, le-int_le}
use Rattle.checker.specs.RefutationTest.{is_against}
use Rattle.feasibility.proofs.OwnMark.{among_others, from_others}

-- ---- an exchange by itself, and two marks

pub possible_from : (allowance : ℤ) (x : Exchange) → is_possible allowance x ≡ true → IsPossible allowance x
possible_from allowance x e = grind arith

pub possible_to : (allowance : ℤ) (x : Exchange) → IsPossible allowance x → is_possible allowance x ≡ true
possible_to allowance x h = rw (le-int_le _ _ h.leaves_before_arrival, le-int_le _ _ h.receives_before_answer) refl

pub compatible_from : (ppb : ℕ) (low high : Mark) → are_compatible ppb low high ≡ true → AreCompatible ppb low high
compatible_from ppb low high e = record { falls = λ before. grind (arith, ints); rises = λ after. grind (arith, ints) }

pub compatible_to : (ppb : ℕ) (low high : Mark) → AreCompatible ppb low high → are_compatible ppb low high ≡ true
compatible_to ppb low high h = grind (arith, ints, h.falls, h.rises)

-- ---- lists of marks

pub all_from : (ppb : ℕ) (lows highs : List Mark) → all_compatible ppb lows highs ≡ true
    → AreAllCompatible ppb lows highs
all_from ppb lows highs e = λ i d below.
    λ j d' below'. compatible_from ppb _ _
    (AllPass-from_list_all _ highs (AllPass-from_list_all _ lows e i d below) j d' below')

pub all_to : (ppb : ℕ) (lows highs : List Mark) → AreAllCompatible ppb lows highs → all_compatible ppb lows highs ≡ true
all_to ppb lows highs h =
    list_all-from_AllPass _ lows (λ i d below. list_all-from_AllPass _ highs
    (λ j d' below'. compatible_to ppb _ _ (h i d below j d' below')))

-- ---- the whole

module _ (claim : ClaimData) (xs : List Exchange) (r : RefutationData) where
  pub refuted_from : is_refuted_with_drift claim xs r ≡ true → (is_against claim r ≡ true → IsAgainst claim r)
      → IsRefutedWithDrift claim xs r
  refuted_from e against_from =
      let (against, agree) = and_parts _ _ e in
      let (possible, compatible) = and_parts _ _ agree in
      from_others claim xs r (record {
        against = against_from against;
        possible = λ i d below. possible_from claim.reading _
            (AllPass-from_list_all _ (true_exchanges (is_liar r.liars) xs) possible i d below);
        compatible = all_from claim.drift_ppb (mark_of r ∷ low_marks claim.reading (is_liar r.liars) xs)
            (mark_of r ∷ high_marks claim.reading (is_liar r.liars) xs) compatible;
      })

  pub refuted_to : IsRefutedWithDrift claim xs r → (IsAgainst claim r → is_against claim r ≡ true)
      → is_refuted_with_drift claim xs r ≡ true
  refuted_to h against_to =
      let by_marks = among_others claim xs r h in
      let possible : list_all (is_possible claim.reading) (true_exchanges (is_liar r.liars) xs) ≡ true =
      list_all-from_AllPass _ (true_exchanges (is_liar r.liars) xs)
      (λ i d below. possible_to claim.reading _ (by_marks.possible i d below)) in
      let all = all_to claim.drift_ppb (mark_of r ∷ low_marks claim.reading (is_liar r.liars) xs)
      (mark_of r ∷ high_marks claim.reading (is_liar r.liars) xs) by_marks.compatible in
      rw (against_to h.against, possible, all) refl

-- two tests that pass together are the same
pub same_answer : (a b : Bool) → (a ≡ true → b ≡ true) → (b ≡ true → a ≡ true) → a ≡ b
same_answer a b h k = grind arith

-- what is against the claim is refuted exactly if the marks agree
module _ (claim : ClaimData) (xs : List Exchange) (r : RefutationData) (against : Bool)
    (tested : against ≡ is_against claim r) (exact : IsTrue against ↔ IsAgainst claim r) where
  pub agreement : against ≡ true → (agree : Bool) → agree ≡ do_agree claim xs r
      → (IsTrue agree ↔ IsRefutedWithDrift claim xs r)
  agreement is_so agree is = (
    (λ passes. refuted_from claim xs r (rw (sym tested ∙ is_so, sym is ∙ passes) refl)
        (λ says. exact.0 (tested ∙ says))),
    λ refuted. is ∙ (and_parts _ _ (refuted_to claim xs r refuted (λ says. sym tested ∙ exact.1 says))).1,
  )
