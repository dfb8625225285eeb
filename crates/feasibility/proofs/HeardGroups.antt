-- Where no more groups have an exchange than may be false: every server of theirs may be false, no
-- mark is left, and the lowest course of one mark of its own fits.
use Rattle.std.proofs.Common.{◌==◌}
use Rattle.std.specs.Prelude.{slice_get}
use Rattle.feasibility.proofs.Common.{rules, nat_tests, ◌≡◌, ℕ, zero, suc, ◌≤◌, ℤ, pos, ◌+ℤ◌, ◌*ℤ◌, Bool, true, false, ◌||◌, List, [], ◌∷◌, length, Some, refl, sym, ◌∙◌, eq-eqb, arith, All, slice_index, list_any, ints, ClaimData, times_le, IsLawful as IsLawfulExchange, Exchange, Mark, low_mark, high_mark, IsPossible, AreCompatible, Course, IsObservedIn, IsTraceable, samples_of, error_of, group_of, has_exchange, count_with_exchange, IsPossibleError, IsNoEvidence, lowest_course, low_marks, ≤ℤ_refl, or-false}
use Rattle.claim_file.specs.Claim.{IsLawful}
use Rattle.feasibility.proofs.Covers.{few_by_cover}
use Rattle.feasibility.proofs.DriftCourse.{beyond}
use Rattle.feasibility.proofs.LowestCourse.{Needs, lowest_fits, lowest_shares}
use Rattle.feasibility.proofs.LowestMarks.{first_is_met}
use Rattle.feasibility.proofs.TrueExchanges.{all_true, all_marks, all_pairs}

module _ {X : Type 0} (p : X → Bool) where
  any_at : (xs : List X) (k : ℕ) (x : X) → slice_get xs k ≡ Some x → p x ≡ true → list_any p xs ≡ true
  any_at [] k x at passes = absurd cc
  any_at (y ∷ ys) zero x at passes = let same : y ≡ x = cc in grind (arith, nat_tests)
  any_at (y ∷ ys) (suc k) x at passes = grind (arith, nat_tests, any_at ys k x at passes)

pub has_own : (claim : ClaimData) (xs : List Exchange) (k : ℕ) (x : Exchange) → slice_get xs k ≡ Some x
    → has_exchange claim xs (group_of claim x) ≡ true
has_own claim xs k x at =
    any_at (λ y. group_of claim x == group_of claim y) xs k x at (eq-eqb (group_of claim x) (group_of claim x) refl)

module _ (claim : ClaimData) (xs : List Exchange) where
  -- every server of a group that has an exchange
  abbrev heard : ℕ → Bool
  heard server = has_exchange claim xs (slice_index claim.groups server)

  none_true : (k : ℕ) (x : Exchange) → slice_get xs k ≡ Some x → heard x.server ≡ false → ⊥
  none_true k x at true' = let own = has_own claim xs k x at in absurd cc

  no_low : (P : Mark → Type 0) → All P (low_marks claim.reading heard xs)
  no_low P = all_marks heard xs P (low_mark claim.reading) (λ k x at true'. absurd (none_true k x at true'))

  module _ (lawful : IsLawful claim) (each : All (IsLawfulExchange (length claim.servers)) xs)
      (few : count_with_exchange claim xs ≤ claim.false_max) where
    needs : (first : Mark) → Needs claim heard first xs
    needs first = record {
      lawful = lawful;
      each = each;
      agree = record {
        possible = all_true heard xs (IsPossible claim.reading) (λ k x at true'. absurd (none_true k x at true'));
        compatible = all_pairs heard xs claim.drift_ppb claim.reading
            (λ i j x y at_i at_j true_x true_y. absurd (none_true i x at_i true_x));
      };
      first_agrees = all_marks heard xs (AreCompatible claim.drift_ppb first) (high_mark claim.reading)
          (λ k x at true'. absurd (none_true k x at true'));
    }

    any_error : (reading error : ℤ) → IsPossibleError claim xs reading error
    any_error reading error =
        let first : Mark = record { place = reading; error = error } in
        let fewer = few_by_cover claim (has_exchange claim xs) in
        record {
          course = lowest_course claim heard first reading xs;
          fits = lowest_fits (needs first) reading (omega arith);
          observed = refl;
          off = first_is_met claim.drift_ppb first (low_marks claim.reading heard xs)
              (no_low (λ low. AreCompatible claim.drift_ppb low first));
          just_heard_false = λ server. refl;
          shares_requests = lowest_shares claim heard first reading xs;
        }

    pub no_evidence : IsNoEvidence claim xs (count_with_exchange claim xs)
    no_evidence = record { counted = refl; few = few; any_error = any_error }

-- ---- so nothing is traceable

module _ (claim : ClaimData) (xs : List Exchange) (lawful : IsLawful claim) where
  seen_in_span : (course : Course) → course.observation.reading ≡ claim.first *ℤ pos course.fineness
      → IsObservedIn course claim.first claim.last
  seen_in_span course is =
      grind (
        arith,
        times_le claim.first claim.first course.fineness (≤ℤ_refl claim.first),
        times_le claim.first
            claim.last course.fineness lawful.span_forward,
      )

  pub untraceable : (groups : ℕ) → IsNoEvidence claim xs groups → IsTraceable claim (samples_of xs claim) → ⊥
  untraceable groups none traceable =
      let error = claim.bound +ℤ pos 1 in
      let shown : IsPossibleError claim xs claim.first error = none.any_error claim.first error in
      beyond claim.bound error (error_of shown.course.observation) shown.course.fineness shown.fits.fits.some_fineness
      (let from_zero = lawful.bound_not_negative in omega (arith, ints)) shown.off
      (traceable xs shown.course refl shown.fits.fits (seen_in_span shown.course shown.observed))

-- ---- the groups that were heard so far, and what is left

pub record AreHeardTo (claim : ClaimData) (xs rest : List Exchange) (is_in : ℕ → Bool) : Type 0 where
  pub all : (group : ℕ) → has_exchange claim xs group ≡ (is_in group || has_exchange claim rest group)

module _ (claim : ClaimData) (xs : List Exchange) where
  pub one_more_heard : (x : Exchange) (left rest : List Exchange) (is_in is_now : ℕ → Bool) (own : ℕ)
      → left ≡ x ∷ rest → own ≡ group_of claim x → ((group : ℕ) → is_now group ≡ ((group == own) || is_in group))
      → AreHeardTo claim xs left is_in → AreHeardTo claim xs rest is_now
  one_more_heard x left rest is_in is_now own split is now before = search rules

  pub all_heard : (is_in : ℕ → Bool) → AreHeardTo claim xs [] is_in
      → (group : ℕ) → is_in group ≡ has_exchange claim xs group
  all_heard is_in heard' group = sym (heard'.all group ∙ or-false (is_in group))
