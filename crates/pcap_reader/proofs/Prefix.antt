-- What the bytes at the front say, whatever follows them.
use Rattle.std.proofs.lemmas.Grind.{common_steps}
use Rattle.std.proofs.lemmas.Bool.Decides.{nat_tests}
use Rattle.std.proofs.lemmas.Int.{ints}
use Rattle.pcap_reader.proofs.Common.{◌≡◌, ◌+◌, ◌*◌, ◌^◌, ◌<◌, ◌≤◌, ℕ, zero, suc, List, [], ◌++◌, length, drop, Option, Some, None, Result, Ok, Err, Bool, true, false, refl, sym, ap, ap₂, subst, ◌∙◌, arith, length-append, append-nil, length-drop, ⊎_elim, if◌then◌else◌, drop-append-le, get_or_append_left, le-ltb, cases_lt, CaptureFault, Magic, Version, Link, TornRecord, Endian, Big, Little, Format, IsHeaderFault, number_in, RecordHead, most_records, ShowsHead, ShowsFault, format_of, version_and_link, header_of, head_at, fault_at, head_fault}
use Rattle.byteorder.specs.Endian.{big_from, little_from}
use Rattle.pcap_reader.proofs.FileHeader.{header_short}
use Rattle.pcap_reader.proofs.RecordFault.{fault_at_none, fault_at_torn}

big_front : (i n : ℕ) (xs ys : List ℕ) → i + n ≤ length xs → big_from i n (xs ++ ys) ≡ big_from i n xs
big_front i zero xs ys long = refl
big_front i (suc n) xs ys long =
    ap₂ (λ a b. a * 256 ^ n + b) (get_or_append_left xs ys 0 i (omega arith)) (big_front (suc i) n xs ys (omega arith))

little_front : (i n : ℕ) (xs ys : List ℕ) → i + n ≤ length xs → little_from i n (xs ++ ys) ≡ little_from i n xs
little_front i zero xs ys long = refl
little_front i (suc n) xs ys long =
    ap₂ (λ a b. a + 256 * b) (get_or_append_left xs ys 0 i (omega arith)) (little_front (suc i) n xs ys (omega arith))

number_front : (order : Endian) (width : ℕ) (xs ys : List ℕ) → width ≤ length xs → number_in order width (xs ++ ys)
    ≡ number_in order width xs
number_front Big width xs ys long = big_front 0 width xs ys (omega arith)
number_front Little width xs ys long = little_front 0 width xs ys (omega arith)

-- the number at a place within the front
pub number_within : (order : Endian) (width k : ℕ) (xs ys : List ℕ) → k + width ≤ length xs →
    number_in order width (drop k (xs ++ ys)) ≡ number_in order width (drop k xs)
number_within order width k xs ys long = grind (arith, length-drop, drop-append-le, number_front)

-- the fault of a record's header, whatever follows it
pub head_fault_front : (f : Format) (p : ℕ) (xs ys : List ℕ) → 16 ≤ length xs → head_fault f p (xs ++ ys)
    ≡ head_fault f p xs
head_fault_front f p xs ys long =
    grind (arith, number_within f.order 4 8 xs ys (omega arith))

-- what a header of 24 bytes settles once its format is known
abbrev settled : Option Format → List ℕ → Result Format CaptureFault
settled format bytes = elim format [ None ↦ Err Magic | Some format ↦ version_and_link format bytes ]

header_long : (bytes : List ℕ) → 24 ≤ length bytes → header_of bytes ≡ settled (format_of bytes) bytes
unfolding header_of
header_long bytes long = rw (le-ltb (length bytes) 24 long) refl

version_front : (f : Format) (xs ys : List ℕ) → 24 ≤ length xs → version_and_link f (xs ++ ys) ≡ version_and_link f xs
version_front f xs ys long =
    grind (arith, number_within f.order 4 20 xs ys (omega arith))

settled_front : (o : Option Format) (xs ys : List ℕ) → 24 ≤ length xs → settled o (xs ++ ys) ≡ settled o xs
settled_front None xs ys long = refl
settled_front (Some f) xs ys long = version_front f xs ys long

format_front : (xs ys : List ℕ) → 24 ≤ length xs → format_of (xs ++ ys) ≡ format_of xs
format_front xs ys long = grind (arith, ints, nat_tests, common_steps, number_front)

-- the fault or the format of a file's header, whatever follows it
pub header_front : (xs ys : List ℕ) → (length xs < 24 → ys ≡ []) → header_of (xs ++ ys) ≡ header_of xs
header_front xs ys short =
    grind (arith, ⊎_elim, append-nil, length-append, header_long, format_front, settled_front, cases_lt)

ok_err : (f : Format) (e : CaptureFault) → Ok f ≡ Err e → ⊥
ok_err f e h = cc

version_faults : (major minor link : Bool) (f : Format) (e : CaptureFault) →
    (if major then (if minor then (if link then Ok f else Err Link) else Err Version) else Err Version) ≡ Err e →
    IsHeaderFault e
version_faults true true false f e h = let same : Link ≡ e = cc in subst IsHeaderFault same tt
version_faults true true true f e h = absurd (ok_err f e h)
version_faults _ _ link f e h = let same : Version ≡ e = cc in subst IsHeaderFault same tt

version_fault : (f : Format) (bytes : List ℕ) (e : CaptureFault) → version_and_link f bytes ≡ Err e → IsHeaderFault e
version_fault f bytes e h = grind (arith, version_faults)

settled_fault : (o : Option Format) (bytes : List ℕ) (e : CaptureFault) → settled o bytes ≡ Err e → IsHeaderFault e
settled_fault None bytes e h = let same : Magic ≡ e = cc in subst IsHeaderFault same tt
settled_fault (Some f) bytes e h = version_fault f bytes e h

-- a header's fault is one of four
pub header_fault : (bytes : List ℕ) (e : CaptureFault) → header_of bytes ≡ Err e → IsHeaderFault e
header_fault bytes e h = grind (arith, ⊎_elim, header_short, settled_fault, header_long, cases_lt)

-- what is shown of bytes whatever follows them holds of the bytes themselves
pub head_shown : (f : Format) (n p : ℕ) (bytes : List ℕ) (head : RecordHead) → ShowsHead f n p bytes head →
    (head_fault f p bytes ≡ None) × (head ≡ head_at f n p bytes)
head_shown f n p bytes head shows = grind (arith, ints, nat_tests, append-nil bytes)

pub fault_shown : (f : Format) (n p : ℕ) (bytes : List ℕ) (e : CaptureFault) → ShowsFault f n p bytes e →
    fault_at f n p bytes ≡ Some e
fault_shown f n p bytes e shows = ap (fault_at f n p) (sym (append-nil bytes)) ∙ shows [] (λ few short. refl)

-- a record's header, and all the bytes that follow it: a record stands there, or it's cut off
module _ (f : Format) (n p : ℕ) (bytes : List ℕ) (head : RecordHead) where
  pub record_whole : n < most_records → 16 ≤ length bytes → (head_fault f p bytes ≡ None)
      × (head ≡ head_at f n p bytes) →
      16 + head.captured ≤ length bytes → fault_at f n p bytes ≡ None
  record_whole few long head_is whole = grind (arith, fault_at_none)

  pub record_torn : n < most_records → 16 ≤ length bytes → (head_fault f p bytes ≡ None)
      × (head ≡ head_at f n p bytes) →
      length bytes < 16 + head.captured → fault_at f n p bytes ≡ Some (TornRecord p)
  record_torn few long head_is torn = grind (arith, fault_at_torn)
