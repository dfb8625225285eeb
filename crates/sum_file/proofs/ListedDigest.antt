-- The digest that sums give to a name.
use Rattle.sum_file.proofs.Common.{◌≡◌, ℕ, ◌↔◌, zero, suc, inl, inr, true, List, [], ◌∷◌, Option, Some, None, option_map, Result, Ok, Err, refl, sym, ap, ◌∙◌, subst, arith, Contains, find, list_all, bytes_eq, and_parts, cases_Bool, cond-false, cond-true, AllPass-from_list_all, bytes_eq-Decides, SumFault, IsGiven, given_in, sum_given, sums_of, SumData, agree, all_agree, digest_named}
use Rattle.sum_file.proofs.Pairs.{Agree-from, all_agree-from}
use Rattle.sum_file.proofs.Refusals.{sums_of-is}

-- the sum that is found for a name
abbrev found : List ℕ → List SumData → Option SumData
found name sums = find (λ sum. bytes_eq sum.name name) sums

-- a sum that is found is listed under its name
record IsFound (name : List ℕ) (sums : List SumData) (sum : SumData) : Type 0 where
  listed : Contains sums sum
  name_is : sum.name ≡ name

found-is : (name : List ℕ) (sums : List SumData) (sum : SumData) → found name sums ≡ Some sum → IsFound name sums sum
found-is name [] sum is = cc
found-is name (first ∷ sums) sum is =
    elim (cases_Bool (bytes_eq first.name name)) [
      | inl here ↦
          let same : first ≡ sum =
          let e : Some first ≡ Some sum =
          sym (cond-true (bytes_eq first.name name) (Some first) (found name sums) here) ∙ is in cc in
          record {
            listed = (zero, omega arith, same);
            name_is = ap (λ (s : SumData). s.name) (sym same) ∙ (bytes_eq-Decides first.name name).0 here;
          }
      | inr there ↦
          let later = found-is name sums sum
          (sym (cond-false (bytes_eq first.name name) (Some first) (found name sums) there) ∙ is) in
          record {
            listed = (suc later.listed.0, omega (arith, later.listed.1), later.listed.2);
            name_is = later.name_is;
          }
    ]

-- the name of a listed sum has its digest
digest_named-listed : (sums : List SumData) (sum : SumData) → all_agree sums ≡ true → Contains sums sum
    → digest_named sum.name sums ≡ Some sum.digest
digest_named-listed [] sum together listed = absurd (omega (arith, listed.1))
digest_named-listed (first ∷ sums) sum together (zero, within, is) = grind (arith, cond-true, bytes_eq-Decides)
digest_named-listed (first ∷ sums) sum together (suc k, within, is) =
    let parts = and_parts (list_all (agree first) sums) (all_agree sums) together in
    elim (cases_Bool (bytes_eq first.name sum.name)) [
      | inl same ↦
          let at = AllPass-from_list_all (agree first) sums parts.0 k sum (omega arith) in
          let agrees : agree first sum ≡ true = ap (agree first) (sym is) ∙ at in
          ap (option_map (λ (s : SumData). s.digest))
          (cond-true (bytes_eq first.name sum.name) (Some first) (found sum.name sums) same)
          ∙ ap Some (Agree-from first sum agrees ((bytes_eq-Decides first.name sum.name).0 same))
      | inr other ↦
          ap (option_map (λ (s : SumData). s.digest))
          (cond-false (bytes_eq first.name sum.name) (Some first) (found sum.name sums) other)
          ∙ digest_named-listed sums sum parts.1 (k, omega arith, is)
    ]

-- what an answer gives
abbrev IsGivenBy : Result (List SumData) SumFault → List ℕ → List ℕ → Type 0
IsGivenBy answer name digest =
    (sums : List SumData) × (answer ≡ Ok sums) × Contains sums (record { digest = digest; name = name })

digest_from : (o : Option SumData) (digest : List ℕ) → option_map (λ sum. sum.digest) o ≡ Some digest
    → (sum : SumData) × (o ≡ Some sum) × (sum.digest ≡ digest)
digest_from None digest is = cc
digest_from (Some sum) digest is = (sum, refl, cc)

given_by : (answer : Result (List SumData) SumFault) (name digest : List ℕ) → given_in answer name ≡ Some digest
    → IsGivenBy answer name digest
given_by (Err fault) name digest is = cc
given_by (Ok sums) name digest is =
    let from = digest_from (found name sums) digest is in
    let sum = found-is name sums from.0 from.1 in
    let whole : from.0 ≡ record { digest = digest; name = name } =
    ap (λ n. let s : SumData = record { digest = from.0.digest; name = n } in s) sum.name_is
    ∙ ap (λ d. let s : SumData = record { digest = d; name = name } in s) from.2 in
    (sums, refl, subst (Contains sums) whole sum.listed)

-- a digest is given exactly if a sum that is read says it
pub sum_given-is : (text name digest : List ℕ) → (sum_given text name ≡ Some digest) ↔ IsGiven text name digest
sum_given-is text name digest = (
  λ is.
      let given = given_by (sums_of text) name digest is in
      record { sums = given.0; read = given.1; listed = given.2 },
  λ given.
      ap (λ answer. given_in answer name) given.read
      ∙ digest_named-listed given.sums (record { digest = digest; name = name })
      (all_agree-from given.sums ((sums_of-is text given.sums).0 given.read).1) given.listed,
)
