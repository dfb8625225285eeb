-- What an answer says of the bytes that are known, by those held when it was given.
use Rattle.pcap_reader.proofs.Common.{◌≡◌, ◌+◌, ◌<◌, ◌≤◌, ℕ, List, ◌++◌, length, take, drop, Option, Some, None, Result, Ok, Err, IfSome, refl, sym, ap, ◌∙◌, arith, append_assoc, length-append, length-drop, option_map, Keeps, IsAtEnd, prepend_known, drop-append-le, take-append-le, Format, RecordHead, CaptureFault, TornRecord, most_records, ShowsHead, ShowsFault, Coming, coming_from, IsNext}
use Rattle.pcap_reader.proofs.Remaining.{coming_from-nil, coming_from_fault, coming_from_read, next_is_fault}
use Rattle.pcap_reader.proofs.Prefix.{record_whole, record_torn}

-- a header that is shown stays shown when more bytes are held
pub head_held : (head : RecordHead) (f : Format) (n p : ℕ) (first held more : List ℕ) → first ≡ held →
    16 ≤ length first →
    ShowsHead f n p first head →
    (16 ≤ length (held ++ more)) × ShowsHead f n p (held ++ more) head
head_held head f n p first held more same long shows = grind (arith, length-append, append_assoc)

-- other words for what an answer leaves
pub IsNext-same : (o : Option Coming) (r : Result (Option RecordHead) CaptureFault) (after after' : Option Coming)
    (lent lent' : List ℕ) → after' ≡ after → lent' ≡ lent →
    IfSome o (λ c. IsNext c r after lent) → IfSome o (λ c. IsNext c r after' lent')
IsNext-same o r after after' lent lent' e d h = grind (arith, IfSome)

-- where an answer says nothing of the bytes
pub says_nothing : (o : Option Coming) → IfSome o (λ c. Unit {0})
says_nothing None = tt
says_nothing (Some c) = tt

module _ (f : Format) (n p : ℕ) where
  -- nothing is held and nothing follows
  pub next_end : (known a : Option (List ℕ)) (p' : ℕ) (held lent : List ℕ) → Keeps known (prepend_known held a) →
      length held ≡ 0 → IsAtEnd a →
      IfSome (option_map (coming_from f n p) known)
      (λ c. IsNext c (Ok None) (option_map (coming_from f n p') (prepend_known held a)) lent)
  next_end None a p' held lent keeps none end = tt
  next_end (Some x) None p' held lent keeps none end = absurd keeps
  next_end (Some x) (Some y) p' held lent keeps none end = grind (arith, length-append, coming_from-nil)

  -- the bytes held show a fault, whatever follows them
  pub next_fault : (known a : Option (List ℕ)) (after : Option Coming) (held lent : List ℕ) (e : CaptureFault) →
      Keeps known (prepend_known held a) → 0 < length held → (n < most_records → length held < 16 → IsAtEnd a) →
      ShowsFault f n p held e → IfSome (option_map (coming_from f n p) known) (λ c. IsNext c (Err e) after lent)
  next_fault None a after held lent e keeps some end shows = tt
  next_fault (Some x) None after held lent e keeps some end shows = absurd keeps
  next_fault (Some x) (Some y) after held lent e keeps some end shows =
      grind (arith, length-append, next_is_fault, coming_from_fault)

  -- all that follows a header is held, and it's less than the header says
  pub next_torn : (known a : Option (List ℕ)) (after : Option Coming) (held lent : List ℕ) (head : RecordHead) →
      Keeps known (prepend_known held a) → n < most_records → 16 ≤ length held → ShowsHead f n p held head →
      length held < 16 + head.captured → IsAtEnd a →
      IfSome (option_map (coming_from f n p) known) (λ c. IsNext c (Err (TornRecord p)) after lent)
  next_torn None a after held lent head keeps few long shows short end = tt
  next_torn (Some x) None after held lent head keeps few long shows short end = absurd keeps
  next_torn (Some x) (Some y) after held lent head keeps few long shows short end =
      let all = held ++ y in
      let size : length all ≡ length held = length-append held y ∙ omega (arith, ap length end) in
      let some : 0 < length all = omega arith in
      let torn : length all < 16 + head.captured = omega arith in
      ap (coming_from f n p) (sym keeps)
      ∙ coming_from_fault f n p all (TornRecord p) some (record_torn f n p all head few (omega arith) (shows y) torn)

  -- a whole record is held
  pub next_whole : (known a : Option (List ℕ)) (held : List ℕ) (head : RecordHead) →
      Keeps known (prepend_known held a) →
      n < most_records → ShowsHead f n p held head → 16 + head.captured ≤ length held →
      IfSome (option_map (coming_from f n p) known)
      (λ c. IsNext c (Ok (Some head))
      (option_map (coming_from f (n + 1) (p + (16 + head.captured)))
      (prepend_known (drop (16 + head.captured) held) a))
      (take head.captured (drop 16 held)))
  next_whole None a held head keeps few shows whole = tt
  next_whole (Some x) None held head keeps few shows whole = absurd keeps
  next_whole (Some x) (Some y) held head keeps few shows whole =
      let all = held ++ y in
      let size = 16 + head.captured in
      let fits : size ≤ length all = omega (arith, length-append held y) in
      let more : 16 ≤ length all = omega arith in
      let some : 0 < length all = omega arith in
      let starts : 16 ≤ length held = omega arith in
      let within : head.captured ≤ length (drop 16 held) = simp length-drop (omega arith) in
      let lent : take head.captured (drop 16 held) ≡ take head.captured (drop 16 all) =
      sym (take-append-le head.captured (drop 16 held) y within)
      ∙ ap (take head.captured) (sym (drop-append-le 16 held y starts)) in
      let rest : drop size held ++ y ≡ drop size all = sym (drop-append-le size held y whole) in
      let stands = record_whole f n p all head few more (shows y) fits in (
        coming_from f (n + 1) (p + size) (drop size held ++ y),
        ap (coming_from f n p) (sym keeps)
            ∙ coming_from_read f n p all head (take head.captured (drop 16 held)) (drop size held ++ y) some stands
            (shows y).1 lent rest,
        refl,
      )
