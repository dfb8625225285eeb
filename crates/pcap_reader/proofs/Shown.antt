-- When the bytes that are held show the next answer.
use Rattle.pcap_reader.proofs.Common.{◌≡◌, ◌+◌, ◌<◌, ◌≤◌, ℕ, List, ◌++◌, length, Bool, false, Option, Some, None, Result, Ok, Err, IfSome, refl, subst, arith, IsTrue, IfOk, OnOk, MatchResult, option_map, prepend_known, Format, RecordHead, CaptureFault, most_records, ShowsHead, coming_from, IsUndecided}
use Rattle.pcap_reader.proofs.NextRecord.{next_whole}

module _ (f : Format) (n p : ℕ) (held : List ℕ) (size : ℕ) (size_is : size ≡ length held) where
  -- a whole record is held
  record_shown : (after : Option (List ℕ)) (head : RecordHead) → n < most_records → ShowsHead f n p held head →
      16 + head.captured ≤ size →
      IfSome (option_map (coming_from f n p) (prepend_known held after)) (λ coming. ¬ (IsUndecided coming size))
  record_shown None head few shows whole = tt
  record_shown (Some rest) head few shows whole = λ undecided.
      let fits : 16 + head.captured ≤ length held = omega arith in
      let next = next_whole f n p (Some (held ++ rest)) (Some rest) held head refl few shows fits in
      let short : size < 16 + head.captured = subst (λ coming. IsUndecided coming size) next.1 undecided in
      omega arith

  -- the test that a header is held and its record with it
  pub shown_by_test : (after : Option (List ℕ)) (found : Result RecordHead CaptureFault) (test : Bool) →
      OnOk found (n < most_records) → IfOk found (ShowsHead f n p held) →
      MatchResult found (λ head. IsTrue test → 16 + head.captured ≤ size) (λ fault. test ≡ false) → IsTrue test →
      IfSome (option_map (coming_from f n p) (prepend_known held after)) (λ coming. ¬ (IsUndecided coming size))
  shown_by_test after (Ok head) test few shows whole passed = record_shown after head few shows (whole passed)
  shown_by_test after (Err fault) test few shows failed passed = grind arith
