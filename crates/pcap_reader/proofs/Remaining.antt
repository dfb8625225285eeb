-- What is to come, a step at a time.
use Rattle.pcap_reader.proofs.Common.{◌≡◌, ◌+◌, ◌-◌, ◌<◌, ℕ, zero, suc, List, [], ◌∷◌, length, drop, Option, Some, None, Ok, Err, take, refl, arith, Format, CaptureFault, Read, Failed, RecordHead, most_records, header_of, Coming, coming_within, coming_from, whole_end, broken_end, then_coming, record_at, fault_at, captured_in, head_at, capture_of, IsNext}
use Rattle.pcap_reader.proofs.RecordFault.{fault_at_most}

within_nil : (left : ℕ) (f : Format) (n p : ℕ) → coming_within left f n p [] ≡ whole_end
unfolding coming_within
within_nil zero f n p = refl
within_nil (suc left) f n p = refl

within_fault : (left : ℕ) (f : Format) (n p b : ℕ) (bs : List ℕ) (e : CaptureFault) → left ≡ most_records - n →
    fault_at f n p (b ∷ bs) ≡ Some e → coming_within left f n p (b ∷ bs) ≡ broken_end e
unfolding coming_within
within_fault zero f n p b bs e few h = grind (arith, fault_at_most)
within_fault (suc left) f n p b bs e few h = rw (coming_within, h) refl

within_record : (left : ℕ) (f : Format) (n p b : ℕ) (bs : List ℕ) → left ≡ most_records - n →
    fault_at f n p (b ∷ bs) ≡ None →
    coming_within left f n p (b ∷ bs) ≡ then_coming (record_at f n p (b ∷ bs))
    (coming_within (most_records - (n + 1)) f (n + 1) (p + (16 + captured_in f.order (b ∷ bs)))
    (drop (16 + captured_in f.order (b ∷ bs)) (b ∷ bs)))
unfolding coming_within
within_record zero f n p b bs few h = grind (arith, fault_at_most)
within_record (suc left) f n p b bs few h = grind arith

-- nothing is to come of no bytes
pub coming_from-nil : (f : Format) (n p : ℕ) (bytes : List ℕ) → length bytes ≡ 0 → coming_from f n p bytes ≡ whole_end
unfolding coming_from
coming_from-nil f n p [] h = within_nil (most_records - n) f n p
coming_from-nil f n p (b ∷ bs) h = absurd (omega arith)

-- a fault at the front is all that is to come
pub coming_from_fault : (f : Format) (n p : ℕ) (bytes : List ℕ) (e : CaptureFault) → 0 < length bytes →
    fault_at f n p bytes ≡ Some e → coming_from f n p bytes ≡ broken_end e
unfolding coming_from
coming_from_fault f n p [] e some h = absurd (omega arith)
coming_from_fault f n p (b ∷ bs) e some h = within_fault (most_records - n) f n p b bs e refl h

-- a record at the front comes first
pub coming_from_record : (f : Format) (n p : ℕ) (bytes : List ℕ) → 0 < length bytes → fault_at f n p bytes ≡ None →
    coming_from f n p bytes ≡ then_coming (record_at f n p bytes)
    (coming_from f (n + 1) (p + (16 + captured_in f.order bytes)) (drop (16 + captured_in f.order bytes) bytes))
unfolding coming_from
coming_from_record f n p [] some h = absurd (omega arith)
coming_from_record f n p (b ∷ bs) some h = within_record (most_records - n) f n p b bs refl h

-- a fault at the end is what an answer with it says
pub next_is_fault : (c : Coming) (e : CaptureFault) (after : Option Coming) (lent : List ℕ) → c ≡ broken_end e →
    IsNext c (Err e) after lent
next_is_fault c Read after lent h = tt
next_is_fault c Failed after lent h = tt
next_is_fault c e after lent h = h

-- the first record, whatever was read of it
pub coming_from_read : (f : Format) (n p : ℕ) (bytes : List ℕ) (head : RecordHead) (lent rest : List ℕ) →
    0 < length bytes → fault_at f n p bytes ≡ None →
    head ≡ head_at f n p bytes → lent ≡ take head.captured (drop 16 bytes) → rest ≡ drop (16 + head.captured) bytes →
    coming_from f n p bytes ≡ then_coming (record { head = head; bytes = lent })
    (coming_from f (n + 1) (p + (16 + head.captured)) rest)
coming_from_read f n p bytes head lent rest some stands head_is lent_is rest_is = grind (arith, coming_from_record)

-- what a file that begins with a lawful header gives
pub capture_of_begun : (bytes : List ℕ) (f : Format) → header_of bytes ≡ Ok f →
    capture_of bytes ≡ Ok (coming_from f 0 24 (drop 24 bytes))
capture_of_begun bytes f h = rw (capture_of, h) refl

-- and one whose header has a fault
pub capture_of_refused : (bytes : List ℕ) (e : CaptureFault) → header_of bytes ≡ Err e → capture_of bytes ≡ Err e
capture_of_refused bytes e h = rw (capture_of, h) refl
