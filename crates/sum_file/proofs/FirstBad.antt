-- The first bad line of a text.
use Rattle.sum_file.proofs.Common.{◌≡◌, ℕ, ◌+◌, ◌<◌, ◌≤◌, Bool, true, false, cond, suc, zero, List, [], ◌∷◌, ◌++◌, length, take, drop, Option, Some, None, is_none, Err, ok_or, unwrap_or, refl, sym, ap, ◌∙◌, arith, length-append, take-append-drop, take-append-le, take-append_seam, find, range_with_len, Form, agreed, first_bad, SumData}
use Rattle.sum_file.proofs.Agreement.{agreed-front, length-agreed}

-- the first number from one on that passes a test
find-range : (test : ℕ → Bool) (from count place : ℕ) → place < count → test (from + place) ≡ true
    → ((k : ℕ) → k < place → test (from + k) ≡ false)
    → find test (range_with_len from count) ≡ Some (from + place)
find-range test from zero place within passes before = absurd (omega arith)
find-range test from (suc count) zero within passes before = grind arith
find-range test from (suc count) (suc place) within passes before =
    let here : from + 0 ≡ from = omega arith in
    let moved : (k : ℕ) → from + suc k ≡ from + 1 + k = λ k. omega arith in
    ap (λ b. cond b (Some from) (find test (range_with_len (from + 1) count)))
    (ap test (sym here) ∙ before 0 (omega arith))
    ∙ find-range test (from + 1) count place (omega arith) (ap test (sym (moved place)) ∙ passes)
    (λ k less. ap test (sym (moved k)) ∙ before (suc k) (omega arith))
    ∙ ap Some (sym (moved place))

not_none : {A : Type 0} (o : Option A) → (o ≡ None → ⊥) → is_none o ≡ false
not_none None not = absurd (not refl)
not_none (Some x) not = refl

-- the lines at the top of those that are all good are so too
front_is_good : (good : List (List ℕ)) (sums : List SumData) (n : ℕ) → agreed good ≡ Some sums
    → is_none (agreed (take n good)) ≡ false
front_is_good good sums n said =
    not_none (agreed (take n good)) λ none.
    let e = ap agreed (sym (take-append-drop n good)) ∙ agreed-front (take n good) (drop n good) none in
    let contrary : None ≡ Some sums = sym e ∙ said in cc

-- a text whose lines are all good up to one that is not
pub first_bad_line : (good : List (List ℕ)) (line : List ℕ) (below : List (List ℕ)) (sums : List SumData)
    → agreed good ≡ Some sums → agreed (good ++ line ∷ []) ≡ None
    → let lines = (good ++ line ∷ []) ++ below in
    ok_or (agreed lines) (Form (first_bad lines)) ≡ Err (Form (length sums + 1))
first_bad_line good line below sums said bad =
    let lines = (good ++ line ∷ []) ++ below in
    let test = λ (n : ℕ). is_none (agreed (take n lines)) in
    let long : length lines ≡ length good + 1 + length below =
    length-append (good ++ line ∷ []) below ∙ ap (λ n. n + length below) (length-append good (line ∷ [])) in
    let front : (n : ℕ) → n ≤ length good → take n lines ≡ take n good = λ n few.
    take-append-le n (good ++ line ∷ []) below (omega (arith, length-append good (line ∷ [])))
    ∙ take-append-le n good (line ∷ []) few in
    let all : take (1 + length good) lines ≡ good ++ line ∷ [] =
    ap (λ n. take n lines) (sym (length-append good (line ∷ []) ∙ omega arith))
    ∙ take-append_seam (good ++ line ∷ []) below in
    let found = find-range test 1 (length lines) (length good) (omega arith)
    (ap (λ l. is_none (agreed l)) all ∙ ap is_none bad)
    (λ k less. ap (λ l. is_none (agreed l)) (front (1 + k) (omega arith)) ∙ front_is_good good sums (1 + k) said) in
    ap (λ s. ok_or s (Form (first_bad lines))) (agreed-front (good ++ line ∷ []) below bad)
    ∙ ap (λ f. Err (Form (unwrap_or f 0))) found
    ∙ ap (λ n. Err (Form n)) (let e = length-agreed good sums said in omega arith)
