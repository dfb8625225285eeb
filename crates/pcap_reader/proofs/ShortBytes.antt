-- Bytes that are too few to show the next answer.
use Rattle.std.proofs.lemmas.Bool.Decides.{nat_tests}
use Rattle.std.proofs.lemmas.Int.{ints}
use Rattle.pcap_reader.proofs.Common.{◌≡◌, ◌+◌, ◌<◌, ◌≤◌, ℕ, List, [], ◌∷◌, length, Option, Some, None, Err, IfSome, refl, sym, ap, subst, ◌∙◌, arith, inl, inr, length-append, option_map, Keeps, prepend_known, cases_lt, Format, RecordHead, CaptureFault, TornRecord, TooMany, Read, most_records, IsRecordFault, ShowsHead, Coming, coming_from, fault_at, head_at, head_fault, captured_in, IsUndecided, IsReadInTime, shown_by}
use Rattle.pcap_reader.proofs.Prefix.{record_whole, record_torn}
use Rattle.pcap_reader.proofs.RecordBytes.{not_some}
use Rattle.pcap_reader.proofs.RecordFault.{fault_at_short, fault_at_head, fault_at_torn, fault_at_none}
use Rattle.pcap_reader.proofs.Remaining.{coming_from-nil, coming_from_fault, coming_from_record}

not_many_after : (f : Format) (n p : ℕ) (x : List ℕ) (o : Option CaptureFault) → head_fault f p x ≡ o →
    n < most_records →
    16 ≤ length x → fault_at f n p x ≡ Some TooMany → ⊥
not_many_after f n p x (Some e) is few long h =
    grind (arith, ints, nat_tests, sym (fault_at_head f n p x e few long is) ∙ h)
not_many_after f n p x None is few long h = grind (arith, cases_lt, fault_at_torn, not_some, fault_at_none)

-- they are too many only after the last record that may be
many : (f : Format) (n p : ℕ) (x : List ℕ) → fault_at f n p x ≡ Some TooMany → most_records ≤ n
many f n p x h = elim (cases_lt n most_records) [
  | inr le ↦ le
  | inl few ↦ elim (cases_lt (length x) 16) [
    | inl short ↦
        let wrong : Some (TornRecord p) ≡ Some TooMany = sym (fault_at_short f n p x few short) ∙ h in
        cc
    | inr long ↦ absurd (not_many_after f n p x (head_fault f p x) refl few long h)
  ]
]

too_few : (e : CaptureFault) (held : ℕ) → held < 16 → (e ≡ TooMany → held < 1) → held < shown_by e held
too_few TooMany held few none = none refl
too_few (TornRecord place) held few none = omega arith
too_few e held few none = few

-- fewer bytes than a header has, or none after the last record that may be
few_held : (f : Format) (n p : ℕ) (x : List ℕ) (held : ℕ) (o : Option CaptureFault) → fault_at f n p x ≡ o →
    0 < length x → held < 16 → (most_records ≤ n → held < 1) → IsUndecided (coming_from f n p x) held
few_held f n p x held None is some few none = grind (arith, coming_from_record)
few_held f n p x held (Some e) is some few none = grind (arith, many, coming_from_fault, too_few)

undecided_head : (f : Format) (n p : ℕ) (x : List ℕ) (held : ℕ) → held ≤ length x → held < 16 →
    (most_records ≤ n → held < 1) → IsUndecided (coming_from f n p x) held
undecided_head f n p [] held within few none = grind (arith, coming_from-nil)
undecided_head f n p (b ∷ bs) held within few none =
    few_held f n p (b ∷ bs) held (fault_at f n p (b ∷ bs)) refl (omega arith) few none

undecided_record : (f : Format) (n p : ℕ) (x : List ℕ) (head : RecordHead) (held : ℕ) → n < most_records →
    16 ≤ length x → (head_fault f p x ≡ None) × (head ≡ head_at f n p x) → held < 16 + head.captured →
    IsUndecided (coming_from f n p x) held
undecided_record f n p x head held few long head_is short =
    let some : 0 < length x = omega arith in
    let captured : head.captured ≡ captured_in f.order x = ap (λ (h : RecordHead). h.captured) head_is.1 in
    elim (cases_lt (length x) (16 + head.captured)) [
      | inl torn ↦
          let e = coming_from_fault f n p x (TornRecord p) some (record_torn f n p x head few long head_is torn) in
          let more : held < held + 1 = omega arith in
          subst (λ c. IsUndecided c held) (sym e) more
      | inr whole ↦
          let e = coming_from_record f n p x some (record_whole f n p x head few long head_is whole) in
          subst (λ c. IsUndecided c held) (sym e) (omega arith)
    ]

module _ (f : Format) (n p : ℕ) where
  -- the device failed before the next header was held
  pub in_time_head : (known a : Option (List ℕ)) (held : List ℕ) (size : ℕ) → size ≡ length held →
      Keeps known (prepend_known held a) → size < 16 → (most_records ≤ n → size < 1) →
      IfSome (option_map (coming_from f n p) known) (λ c. IsReadInTime (Err Read) c size)
  in_time_head None a held size size_is keeps few none = tt
  in_time_head (Some x) None held size size_is keeps few none = absurd keeps
  in_time_head (Some x) (Some y) held size size_is keeps few none = grind (arith, length-append, undecided_head)

  -- the device failed before the record was held whose header had been
  pub in_time_record : (known a : Option (List ℕ)) (held : List ℕ) (head : RecordHead) (size : ℕ) →
      Keeps known (prepend_known held a) → n < most_records → 16 ≤ length held → ShowsHead f n p held head →
      size < 16 + head.captured →
      IfSome (option_map (coming_from f n p) known) (λ c. IsReadInTime (Err Read) c size)
  in_time_record None a held head size keeps few long shows short = tt
  in_time_record (Some x) None held head size keeps few long shows short = absurd keeps
  in_time_record (Some x) (Some y) held head size keeps few long shows short =
      let shown : (head_fault f p x ≡ None) × (head ≡ head_at f n p x) = rw (← keeps) (shows y) in
      undecided_record f n p x head size few (omega (arith, ap length keeps, length-append held y)) shown short

-- any other answer says nothing of it
pub in_time_fault : (o : Option Coming) (e : CaptureFault) (held : ℕ) → IsRecordFault e →
    IfSome o (λ c. IsReadInTime (Err e) c held)
in_time_fault (Some c) Read held h = absurd h
in_time_fault _ e held h = tt
