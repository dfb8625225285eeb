-- The text that `sha256sum` writes.
use Rattle.sum_file.proofs.Common.{◌≡◌, ℕ, zero, suc, ◌==◌, inl, inr, true, not, List, [], ◌∷◌, ◌++◌, map, get_or, Some, option_map, option_and_then, Ok, ok_or, refl, sym, ap, ◌∙◌, true≢false, arith, All, AllPairs, and_parts, not-true, or_parts, eq-eqb, All-head, All-tail, list_all-append, AllPass-from_list_all, IsMark, written, carriage_return, line_feed, HasNoFeed, all_said, sums_of, text_of, without_last, Agree, IsWritable, SumData}
use Rattle.sum_file.proofs.Agreement.{if_agree}
use Rattle.sum_file.proofs.Cuts.{lines_of_ended, snoc_view, without_last-other}
use Rattle.sum_file.proofs.Pairs.{all_agree-from}
use Rattle.sum_file.proofs.Spelling.{line_of-Says}
use Rattle.sum_file.proofs.Written.{Says-written, clean_written, is_clean, is_ending}

-- clean bytes have no line feed, and no carriage return at their end
no_feed : (bytes : List ℕ) → is_clean bytes ≡ true → HasNoFeed bytes
no_feed bytes clean k d less is =
    grind (arith, get_or, AllPass-from_list_all, not, is_ending, or_parts, not-true, true≢false, eq-eqb)

no_return : (bytes : List ℕ) → is_clean bytes ≡ true → without_last carriage_return bytes ≡ bytes
no_return bytes clean =
    elim (snoc_view bytes) [
      | inl none ↦ ap (without_last carriage_return) none ∙ sym none
      | inr view ↦
          let whole : is_clean (view.0 ++ view.1 ∷ []) ≡ true = ap is_clean (sym view.2) ∙ clean in
          let last = and_parts (is_clean view.0) (is_clean (view.1 ∷ []))
          (sym (list_all-append (λ b. not (is_ending b)) view.0 (view.1 ∷ [])) ∙ whole) in
          let passes = and_parts (not (is_ending view.1)) true last.1 in
          let ends = or_parts (view.1 == line_feed) (view.1 == carriage_return)
          (not-true (is_ending view.1) passes.0) in
          ap (without_last carriage_return) view.2
          ∙ without_last-other carriage_return view.1 view.0
          (λ is. true≢false (sym (eq-eqb view.1 carriage_return is) ∙ ends.1))
          ∙ sym view.2
    ]

module _ (mark : ℕ) (marked : IsMark mark) where
  no_feeds : (sums : List SumData) → All IsWritable sums → All HasNoFeed (map (written mark) sums)
  no_feeds [] writable k d less = absurd (omega arith)
  no_feeds (sum ∷ sums) writable zero d less = grind (arith, no_feed, clean_written, All-head)
  no_feeds (sum ∷ sums) writable (suc k) d less =
      no_feeds sums (All-tail IsWritable sum sums writable) k d (omega arith)

  stripped : (sums : List SumData) → All IsWritable sums
      → map (without_last carriage_return) (map (written mark) sums) ≡ map (written mark) sums
  stripped [] writable = refl
  stripped (sum ∷ sums) writable =
      ap (λ l. l ∷ map (without_last carriage_return) (map (written mark) sums))
      (no_return (written mark sum) (clean_written mark sum marked (All-head IsWritable sum sums writable)))
      ∙ ap (λ l. written mark sum ∷ l) (stripped sums (All-tail IsWritable sum sums writable))

  said : (sums : List SumData) → All IsWritable sums → all_said (map (written mark) sums) ≡ Some sums
  said [] writable = refl
  said (sum ∷ sums) writable =
      ap (option_and_then (λ s. option_map (λ more. s ∷ more) (all_said (map (written mark) sums))))
      (line_of-Says (written mark sum) sum
      (Says-written mark sum marked (All-head IsWritable sum sums writable)))
      ∙ ap (option_map (λ more. sum ∷ more)) (said sums (All-tail IsWritable sum sums writable))

  pub sums_of_text_of : (sums : List SumData) → All IsWritable sums → AllPairs Agree sums
      → sums_of (text_of mark sums) ≡ Ok sums
  sums_of_text_of sums writable agreeing =
      grind (arith, map, lines_of_ended, no_feeds, stripped, ok_or, option_and_then, if_agree, said, all_agree-from)
