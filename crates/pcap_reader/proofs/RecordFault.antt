-- The first fault at a place, test by test.
use Rattle.pcap_reader.proofs.Common.{arith, ◌≡◌, ◌+◌, ◌<◌, ◌≤◌, ℕ, List, length, Some, None, refl, lt-ltb, le-ltb, le-leb, lt-leb, Format, CaptureFault, TornRecord, TooMany, most_records, fault_at, head_fault, captured_in}

-- after so many records nothing may stand there
pub fault_at_most : (f : Format) (n p : ℕ) (bytes : List ℕ) → most_records ≤ n → fault_at f n p bytes ≡ Some TooMany
unfolding fault_at
fault_at_most f n p bytes many = rw (le-leb most_records n many) refl

-- fewer bytes than a record's header has
pub fault_at_short : (f : Format) (n p : ℕ) (bytes : List ℕ) → n < most_records → length bytes < 16 →
    fault_at f n p bytes ≡ Some (TornRecord p)
unfolding fault_at
fault_at_short f n p bytes few short = rw (lt-leb most_records n few, lt-ltb (length bytes) 16 short) refl

-- the header has a fault
pub fault_at_head : (f : Format) (n p : ℕ) (bytes : List ℕ) (e : CaptureFault) → n < most_records →
    16 ≤ length bytes → head_fault f p bytes ≡ Some e → fault_at f n p bytes ≡ Some e
unfolding fault_at
fault_at_head f n p bytes e few long h = rw (lt-leb most_records n few, le-ltb (length bytes) 16 long, h) refl

-- fewer bytes than the header says
pub fault_at_torn : (f : Format) (n p : ℕ) (bytes : List ℕ) → n < most_records → 16 ≤ length bytes →
    head_fault f p bytes ≡ None → length bytes < 16 + captured_in f.order bytes →
    fault_at f n p bytes ≡ Some (TornRecord p)
unfolding fault_at
fault_at_torn f n p bytes few long h torn = grind (arith, lt-leb, le-ltb, lt-ltb)

-- a whole record stands there
pub fault_at_none : (f : Format) (n p : ℕ) (bytes : List ℕ) → n < most_records → 16 ≤ length bytes →
    head_fault f p bytes ≡ None → 16 + captured_in f.order bytes ≤ length bytes → fault_at f n p bytes ≡ None
unfolding fault_at
fault_at_none f n p bytes few long h whole = grind (arith, lt-leb, le-ltb)
