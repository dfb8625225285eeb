-- What the sums of a text and its first bad line are, in relations.
use Rattle.sum_file.proofs.Common.{arith, ◌≡◌, ◌≢◌, ℕ, ◌+◌, ◌⊎◌, ◌↔◌, inl, inr, List, [], ◌∷◌, ◌++◌, length, map, Option, Some, None, option_and_then, Ok, Err, ok_or, refl, sym, ap, ◌∙◌, subst, AllPairs, Any, cases_Bool, cond-true, append-nil, append_snoc, SumFault, Form, Memory, line_of, IsFirstBad, agreed, first_bad, lines_of, sums_of, Agree, Disagree, SumData}
use Rattle.sum_file.proofs.Agreement.{agreed-from, agreed-push, agreed-said, length-agreed, map-said, with_one}
use Rattle.sum_file.proofs.FirstBad.{first_bad_line}
use Rattle.sum_file.proofs.Pairs.{AllPairs-from, Any-disagrees, all_agree-from, each_agrees, fails-from_Any}

-- what an answer comes from
some_from : (o : Option (List SumData)) (fault : SumFault) (sums : List SumData) → ok_or o fault ≡ Ok sums
    → o ≡ Some sums
some_from None fault sums is = cc
some_from (Some s) fault sums is = let e : s ≡ sums = cc in ap Some e

none_from : (o : Option (List SumData)) (fault other : SumFault) → ok_or o fault ≡ Err other
    → (o ≡ None) × (fault ≡ other)
none_from None fault other is = (refl, cc)
none_from (Some s) fault other is = cc

-- sums are given exactly if every line says one and no two disagree
pub sums_of-is : (text : List ℕ) (sums : List SumData)
    → (sums_of text ≡ Ok sums) ↔ ((map line_of (lines_of text) ≡ map Some sums) × AllPairs Agree sums)
sums_of-is text sums = (
  λ is.
      let said = agreed-said (lines_of text) sums
      (some_from (agreed (lines_of text)) (Form (first_bad (lines_of text))) sums is) in
      (map-said (lines_of text) sums said.0, AllPairs-from sums said.1),
  λ good.
      ap (λ s. ok_or s (Form (first_bad (lines_of text))))
      (agreed-from (lines_of text) sums good.0 (all_agree-from sums good.1)),
)

-- a line below good ones that isn't good
bad_by : (said : Option SumData) (sums : List SumData)
    → option_and_then (with_one sums) said ≡ None
    → (said ≡ None) ⊎ ((sum : SumData) × (said ≡ Some sum) × Any (λ earlier. Disagree earlier sum) sums)
bad_by None sums is = inl refl
bad_by (Some sum) sums is = grind (arith, cases_Bool, each_agrees, cond-true, Any-disagrees)

none_by : (said : Option SumData) (sums : List SumData)
    → (said ≡ None) ⊎ ((sum : SumData) × (said ≡ Some sum) × Any (λ earlier. Disagree earlier sum) sums)
    → option_and_then (with_one sums) said ≡ None
none_by said sums (inl none) = grind (arith, option_and_then, with_one)
none_by said sums (inr some) = grind (arith, option_and_then, with_one, fails-from_Any)

-- lines that aren't all good have a first bad one
cases_Option : {A : Type 0} (o : Option A) → (o ≡ None) ⊎ ((x : A) × (o ≡ Some x))
cases_Option None = inl refl
cases_Option (Some x) = inr (x, refl)

find_bad : (above rest : List (List ℕ)) (sums : List SumData) → agreed above ≡ Some sums
    → agreed (above ++ rest) ≡ None → (number : ℕ) × IsFirstBad (above ++ rest) number
find_bad above [] sums good bad = cc (sym good ∙ ap agreed (sym (append-nil above)) ∙ bad)
find_bad above (line ∷ below) sums good bad =
    elim (cases_Option (agreed (above ++ line ∷ []))) [
      | inl none ↦
          let said = agreed-said above sums good in (
            length above + 1,
            record {
              above = above;
              line = line;
              below = below;
              sums = sums;
              placed = refl;
              counted = refl;
              said = map-said above sums said.0;
              agreeing = AllPairs-from sums said.1;
              bad = bad_by (line_of line) sums (sym (agreed-push above line sums good) ∙ none);
            },
          )
      | inr some ↦
          let e : (above ++ line ∷ []) ++ below ≡ above ++ line ∷ below = append_snoc above line below in
          subst (λ l. (number : ℕ) × IsFirstBad l number) e
          (find_bad (above ++ line ∷ []) below some.0 some.1 (ap agreed e ∙ bad))
    ]

-- the fault of lines whose first bad one has this number
refused_at : (lines : List (List ℕ)) (number : ℕ) → IsFirstBad lines number
    → ok_or (agreed lines) (Form (first_bad lines)) ≡ Err (Form number)
refused_at lines number first =
    let good = agreed-from first.above first.sums first.said (all_agree-from first.sums first.agreeing) in
    let bad : agreed (first.above ++ first.line ∷ []) ≡ None =
    agreed-push first.above first.line first.sums good ∙ none_by (line_of first.line) first.sums first.bad in
    ap (λ l. ok_or (agreed l) (Form (first_bad l)))
    (first.placed ∙ sym (append_snoc first.above first.line first.below))
    ∙ first_bad_line first.above first.line first.below first.sums good bad
    ∙ ap (λ n. Err (Form n)) (ap (λ n. n + 1) (length-agreed first.above first.sums good) ∙ sym first.counted)

-- a text is refused exactly for its first bad line
pub sums_of-refused : (text : List ℕ) (number : ℕ)
    → (sums_of text ≡ Err (Form number)) ↔ IsFirstBad (lines_of text) number
sums_of-refused text number = (
  λ is.
      let from = none_from (agreed (lines_of text)) (Form (first_bad (lines_of text))) (Form number) is in
      let found = find_bad [] (lines_of text) [] refl from.0 in
      let e : Err (Form found.0) ≡ Err (Form number) = sym (refused_at (lines_of text) found.0 found.1) ∙ is in
      let n : found.0 ≡ number = cc in
      subst (IsFirstBad (lines_of text)) n found.1,
  refused_at (lines_of text) number,
)

-- and for nothing else
pub sums_of-never_Memory : (text : List ℕ) → sums_of text ≢ Err Memory
sums_of-never_Memory text is = grind (arith, none_from)
