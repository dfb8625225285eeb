-- One record: the bytes that spell it are read as it, and what is read is spelled by its bytes.
use Rattle.pcap_reader.proofs.Common.{◌≡◌, ◌+◌, ◌^◌, ◌<◌, ◌≤◌, ℕ, List, ◌++◌, length, take, drop, Option, Some, None, refl, sym, ◌∙◌, arith, inl, inr, length-append, length-take, length-drop, cases_lt, lt-ltb, le-ltb, le-leb, lt-leb, per_second, Unit as TimeUnit, Micro, Nano, CaptureFault, TornRecord, TooLong, BadFraction, TooMany, Endian, Format, RecordHead, IsBytes, Record, IsRecordAt, record_spelling, most_captured, most_records, fault_at, head_fault, head_at, record_at, sec_in, sub_in, captured_in, original_in}
use Rattle.pcap_reader.proofs.RecordFault.{fault_at_most, fault_at_short, fault_at_head, fault_at_torn, fault_at_none}
use Rattle.pcap_reader.proofs.Parts.{bytes_after, front, after, further, five_parts, taken_16}
use Rattle.pcap_reader.proofs.Spelling.{number_in-spelled, length-spelled, number_in-lt, spelled-number_in_4}

-- a second has at most so many units that they fit four bytes
per_second-lt : (unit : TimeUnit) → per_second unit < 2 ^ 32
per_second-lt Micro = omega arith
per_second-lt Nano = omega arith

pub length-record_spelling : (order : Endian) (r : Record) → length (record_spelling order r) ≡ 16 + length r.bytes
length-record_spelling order r = grind (arith, length-spelled, length-append)

-- what the fields of a record's header say, and what follows them
record IsFront (order : Endian) (r : Record) (rest bytes : List ℕ) : Type 0 where
  sec_is : sec_in order bytes ≡ r.head.sec
  sub_is : sub_in order bytes ≡ r.head.sub
  captured_is : captured_in order bytes ≡ r.head.captured
  original_is : original_in order bytes ≡ r.head.original
  after_head : drop 16 bytes ≡ r.bytes ++ rest
  long : length bytes ≡ 16 + (length r.bytes + length rest)

-- the numbers of a record's header fit four bytes
record Fits (head : RecordHead) : Type 0 where
  sec_fits : head.sec < 2 ^ 32
  sub_fits : head.sub < 2 ^ 32
  captured_fits : head.captured < 2 ^ 32
  original_fits : head.original < 2 ^ 32

spelled_front : (order : Endian) (r : Record) (rest bytes : List ℕ) → Fits r.head →
    bytes ≡ record_spelling order r ++ rest →
    IsFront order r rest bytes
spelled_front order r rest bytes fits e =
    grind (arith, five_parts, after, length-spelled, further, number_in-spelled, length-append, length-record_spelling)

-- a header whose length and fraction are lawful has no fault
pub head_fault-none : (f : Format) (place : ℕ) (bytes : List ℕ) → captured_in f.order bytes ≤ most_captured →
    sub_in f.order bytes < per_second f.unit → head_fault f place bytes ≡ None
head_fault-none f place bytes short part = grind (arith, le-ltb, lt-leb)

pub head_fault-long : (f : Format) (place : ℕ) (bytes : List ℕ) → most_captured < captured_in f.order bytes →
    head_fault f place bytes ≡ Some (TooLong place)
head_fault-long f place bytes long = rw (lt-ltb most_captured (captured_in f.order bytes) long) refl

pub head_fault-fraction : (f : Format) (place : ℕ) (bytes : List ℕ) → captured_in f.order bytes ≤ most_captured →
    per_second f.unit ≤ sub_in f.order bytes → head_fault f place bytes ≡ Some (BadFraction place)
head_fault-fraction f place bytes short whole = grind (arith, le-ltb, le-leb)

-- what it takes that no fault applies
pub record IsFaultless (f : Format) (number : ℕ) (bytes : List ℕ) : Type 0 where
  pub few : number < most_records
  pub head : 16 ≤ length bytes
  pub short : captured_in f.order bytes ≤ most_captured
  pub fraction : sub_in f.order bytes < per_second f.unit
  pub whole : 16 + captured_in f.order bytes ≤ length bytes

pub fault_at-faultless : (f : Format) (number place : ℕ) (bytes : List ℕ) → IsFaultless f number bytes →
    fault_at f number place bytes ≡ None
fault_at-faultless f number place bytes h = grind (arith, fault_at_none, head_fault-none)

-- None is no fault
pub not_some : (o : Option CaptureFault) (e : CaptureFault) → o ≡ None → o ≡ Some e → ⊥
not_some o e none some = let wrong : None ≡ Some e = sym none ∙ some in cc

pub faultless : (f : Format) (number place : ℕ) (bytes : List ℕ) → fault_at f number place bytes ≡ None →
    IsFaultless f number bytes
faultless f number place bytes h =
    let few : number < most_records = elim (cases_lt number most_records) [
      | inl lt ↦ lt
      | inr le ↦ absurd (not_some _ TooMany h (fault_at_most f number place bytes le))
    ] in
    let head : 16 ≤ length bytes = elim (cases_lt (length bytes) 16) [
      | inl lt ↦ absurd (not_some _ (TornRecord place) h (fault_at_short f number place bytes few lt))
      | inr le ↦ le
    ] in
    let short : captured_in f.order bytes ≤ most_captured =
    elim (cases_lt most_captured (captured_in f.order bytes)) [
      | inl lt ↦ absurd (not_some _ (TooLong place) h (fault_at_head f number place bytes (TooLong place) few head
          (head_fault-long f place bytes lt)))
      | inr le ↦ le
    ] in
    let fraction : sub_in f.order bytes < per_second f.unit =
    elim (cases_lt (sub_in f.order bytes) (per_second f.unit)) [
      | inl lt ↦ lt
      | inr le ↦ absurd (not_some _ (BadFraction place) h
          (fault_at_head f number place bytes (BadFraction place) few head
          (head_fault-fraction f place bytes short le)))
    ] in
    let whole : 16 + captured_in f.order bytes ≤ length bytes =
    elim (cases_lt (length bytes) (16 + captured_in f.order bytes)) [
      | inl lt ↦ absurd (not_some _ (TornRecord place) h (fault_at_torn f number place bytes few head
          (head_fault-none f place bytes short fraction) lt))
      | inr le ↦ le
    ] in
    record { few = few; head = head; short = short; fraction = fraction; whole = whole }

-- what is read where a record is spelled
pub record IsReadAs (f : Format) (number place : ℕ) (r : Record) (rest bytes : List ℕ) : Type 0 where
  pub faultless : IsFaultless f number bytes
  pub head : r.head ≡ head_at f number place bytes
  pub lent : r.bytes ≡ take r.head.captured (drop 16 bytes)
  pub rest_is : rest ≡ drop (16 + r.head.captured) bytes

heads_agree : (f : Format) (number place : ℕ) (bytes : List ℕ) (h : RecordHead) → h.number ≡ number →
    h.place ≡ place → h.unit ≡ f.unit →
    sec_in f.order bytes ≡ h.sec → sub_in f.order bytes ≡ h.sub → captured_in f.order bytes ≡ h.captured →
    original_in f.order bytes ≡ h.original →
    h ≡ head_at f number place bytes
heads_agree f number place bytes h number_is place_is unit_is sec sub captured original = grind arith

pub spelled_record : (f : Format) (number place : ℕ) (r : Record) (rest bytes : List ℕ) →
    IsRecordAt f.unit number place r →
    bytes ≡ record_spelling f.order r ++ rest → IsReadAs f number place r rest bytes
spelled_record f number place r rest bytes h e =
    let unit_fits = per_second-lt r.head.unit in
    let fits : Fits r.head = record {
      sec_fits = h.lawful.sec;
      sub_fits = omega (arith, h.lawful.sub);
      captured_fits = omega (arith, h.lawful.captured);
      original_fits = h.lawful.original;
    } in
    let parts = spelled_front f.order r rest bytes fits e in
    let lawful = h.lawful in
    record {
      faultless = record {
        few = rw (← h.number_is) h.lawful.number;
        head = omega (arith, parts.long);
        short = rw (parts.captured_is) h.lawful.captured;
        fraction = rw (parts.sub_is, ← h.unit_is) h.lawful.sub;
        whole = rw (parts.captured_is, parts.long, h.whole) (omega arith);
      };
      head = heads_agree f number place bytes r.head h.number_is h.place_is h.unit_is parts.sec_is parts.sub_is
          parts.captured_is parts.original_is;
      lent = sym (front (drop 16 bytes) r.bytes rest r.head.captured parts.after_head h.whole);
      rest_is = sym (further bytes r.bytes rest 16 r.head.captured parts.after_head h.whole);
    }

-- what is read where no fault applies
pub read_record : (f : Format) (number place : ℕ) (bytes : List ℕ) → IsBytes bytes → IsFaultless f number bytes →
    IsRecordAt f.unit number place (record_at f number place bytes)
read_record f number place bytes are_bytes h =
    record {
      lawful = record {
        number = h.few;
        sec = number_in-lt f.order 4 bytes are_bytes;
        sub = h.fraction;
        captured = h.short;
        original = number_in-lt f.order 4 (drop 12 bytes) (bytes_after bytes 12 are_bytes);
      };
      number_is = refl;
      place_is = refl;
      unit_is = refl;
      whole = simp (length-take, length-drop) (omega (arith, h.whole));
    }

pub read_bytes : (f : Format) (number place : ℕ) (bytes : List ℕ) → IsBytes bytes → IsFaultless f number bytes →
    bytes ≡ record_spelling f.order (record_at f number place bytes) ++ drop (16 + captured_in f.order bytes) bytes
read_bytes f number place bytes are_bytes h =
    let long = h.head in
    let sec = spelled-number_in_4 f.order bytes are_bytes (omega arith) in
    let sub = spelled-number_in_4 f.order (drop 4 bytes) (bytes_after bytes 4 are_bytes)
    (simp length-drop (omega arith)) in
    let captured = spelled-number_in_4 f.order (drop 8 bytes) (bytes_after bytes 8 are_bytes)
    (simp length-drop (omega arith)) in
    let original = spelled-number_in_4 f.order (drop 12 bytes) (bytes_after bytes 12 are_bytes)
    (simp length-drop (omega arith)) in
    sym (rw (sec, sub, captured, original) (taken_16 bytes (captured_in f.order bytes)))
