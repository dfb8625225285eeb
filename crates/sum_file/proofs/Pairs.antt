-- Sums of which no two disagree.
use Rattle.sum_file.proofs.Common.{Bool, ◌≡◌, zero, suc, inl, inr, true, false, not, List, [], ◌∷◌, get_or, refl, arith, true≢false, AllPairs, Any, list_all, and_cases, and_from, and_parts, cases_Bool, not_from_false, or_cases, or_left, or_parts, or_right, not-true, not-false, AllPass-from_list_all, list_all-from_AllPass, bytes_eq-Decides, Agree, Disagree, SumData, agree, all_agree}

-- the test of two sums
agree-from : (a b : SumData) → Agree a b → agree a b ≡ true
agree-from a b agrees = grind (arith, cases_Bool, or_right, not, bytes_eq-Decides, or_left, not_from_false)

pub Agree-from : (a b : SumData) → agree a b ≡ true → Agree a b
Agree-from a b passes name = grind (arith, or_cases, not, bytes_eq-Decides, true≢false, not-true)

Disagree-from : (a b : SumData) → agree a b ≡ false → Disagree a b
Disagree-from a b fails = grind (arith, or_parts, not, bytes_eq-Decides, not-false, true≢false)

agree-Disagree : (a b : SumData) → Disagree a b → agree a b ≡ false
agree-Disagree a b disagree = grind (arith, cases_Bool, Agree-from)

-- the test of all pairs
pub all_agree-from : (sums : List SumData) → AllPairs Agree sums → all_agree sums ≡ true
all_agree-from [] pairs = refl
all_agree-from (sum ∷ later) pairs =
    and_from (list_all (agree sum) later) (all_agree later)
    (list_all-from_AllPass (agree sum) later
    (λ k d less. agree-from sum (get_or later k d) (pairs zero (suc k) d (omega arith) (omega arith))))
    (all_agree-from later (λ i j d before within. pairs (suc i) (suc j) d (omega arith) (omega arith)))

pub AllPairs-from : (sums : List SumData) → all_agree sums ≡ true → AllPairs Agree sums
AllPairs-from [] passes i j d before within = absurd (omega arith)
AllPairs-from (sum ∷ later) passes zero zero d before within = absurd (omega arith)
AllPairs-from (sum ∷ later) passes zero (suc j) d before within =
    grind (arith, and_parts, Agree-from, get_or, AllPass-from_list_all)
AllPairs-from (sum ∷ later) passes (suc i) zero d before within = absurd (omega arith)
AllPairs-from (sum ∷ later) passes (suc i) (suc j) d before within =
    let parts = and_parts (list_all (agree sum) later) (all_agree later) passes in
    AllPairs-from later parts.1 i j d (omega arith) (omega arith)

-- each of these sums agrees with another
abbrev pub each_agrees : List SumData → SumData → Bool
each_agrees sums sum = list_all (λ s. agree s sum) sums

-- one that disagrees with a sum
pub Any-disagrees : (sums : List SumData) (sum : SumData) → each_agrees sums sum ≡ false
    → Any (λ s. Disagree s sum) sums
Any-disagrees [] sum fails = cc
Any-disagrees (first ∷ sums) sum fails =
    elim (and_cases (agree first sum) (each_agrees sums sum) fails) [
      | inl here ↦ (zero, first, omega arith, refl, Disagree-from first sum here)
      | inr there ↦
          let any = Any-disagrees sums sum there in (suc any.0, any.1, omega (arith, any.2), any.3, any.4)
    ]

pub fails-from_Any : (sums : List SumData) (sum : SumData) → Any (λ s. Disagree s sum) sums
    → each_agrees sums sum ≡ false
fails-from_Any sums sum any = grind (arith, cases_Bool, AllPass-from_list_all, true≢false, agree-Disagree)
