-- What is read of the whole bytes of a file, and what they are.
use Rattle.pcap_reader.proofs.Common.{◌≡◌, ◌+◌, ◌<◌, ◌≤◌, ◌⊎◌, ℕ, List, [], ◌++◌, length, take, drop, Option, Some, None, Result, Ok, Err, refl, sym, ap, subst, ◌∙◌, arith, inl, inr, append_assoc, append-nil, length-append, zero-add, MatchOption, take-append-drop, CaptureFault, Format, IsBytes, BeginsWith, IsBrokenAfter, HasHeaderFault, HasFault, Record, IsHeader, IsRecordAt, IsCapture, record_spelling, spelling, most_records, header_of, Coming, coming_from, capture_of, fault_at}
use Rattle.pcap_reader.proofs.RecordList.{IsReadFrom, after_records, coming_from-spelled, read_from, same_place}
use Rattle.pcap_reader.proofs.Remaining.{coming_from-nil, coming_from_fault, capture_of_begun, capture_of_refused}
use Rattle.pcap_reader.proofs.FileHeader.{spelled_header, header_read, header_is_read, header_has_fault, header_fault_read}
use Rattle.pcap_reader.proofs.Parts.{bytes_after}
use Rattle.pcap_reader.proofs.RecordBytes.{fault_at-faultless, not_some, spelled_record}

-- bytes that begin with records are read as these, and then as what the rest is
pub capture_of-begins : (bytes : List ℕ) (f : Format) (records : List Record) (rest : List ℕ) →
    BeginsWith bytes f records rest →
    capture_of bytes ≡ Ok (after_records records
    (coming_from f (length records) (24 + length (spelling f.order records)) rest))
capture_of-begins bytes f records rest h =
    let read = spelled_header bytes h.header (spelling f.order records ++ rest) f h.is_header (h.joined
    ∙ append_assoc h.header (spelling f.order records) rest) in
    let spelled = coming_from-spelled f 0 24 records rest h.are_records in
    let counted = same_place f (0 + length records) (length records) _ _ rest (zero-add (length records)) refl in
    capture_of_begun bytes f read.0 ∙ ap Ok (ap (coming_from f 0 24) read.1 ∙ spelled
    ∙ ap (after_records records) counted)

capture_begins : (bytes : List ℕ) (f : Format) (records : List Record) → IsCapture bytes f records →
    BeginsWith bytes f records []
capture_begins bytes f records h = grind (arith, append-nil)

-- what is to come, as an answer
abbrev answer : List Record → Option CaptureFault → Result Coming CaptureFault
answer records fault = Ok (record { records = records; fault = fault })

pub capture_read : (bytes : List ℕ) (f : Format) (records : List Record) → IsCapture bytes f records →
    capture_of bytes ≡ Ok (record { records = records; fault = None })
capture_read bytes f records h =
    let end = coming_from-nil f (length records) (24 + length (spelling f.order records)) [] refl in
    capture_of-begins bytes f records [] (capture_begins bytes f records h)
    ∙ ap (λ c. Ok (after_records records c)) end ∙ ap (λ rs. answer rs None) (append-nil records)

-- of which file a source is begun, and what is to come of it
record IsBegun (bytes : List ℕ) (c : Coming) : Type 0 where
  format : Format
  read : header_of bytes ≡ Ok format
  coming : coming_from format 0 24 (drop 24 bytes) ≡ c

begun : (bytes : List ℕ) (c : Coming) (r : Result Format CaptureFault) → header_of bytes ≡ r →
    capture_of bytes ≡ Ok c → IsBegun bytes c
begun bytes c (Ok f) h found = grind (arith, capture_of_begun)
begun bytes c (Err e) h found = grind arith

-- what bytes begin with, of which something is to come
pub record IsReadBy (bytes : List ℕ) (c : Coming) : Type 0 where
  pub format : Format
  pub rest : List ℕ
  pub begins : BeginsWith bytes format c.records rest
  pub ends : MatchOption c.fault (rest ≡ []) (λ e. (0 < length rest)
      × (fault_at format (length c.records) (24 + length (spelling format.order c.records)) rest ≡ Some e))

pub read_by : (bytes : List ℕ) (c : Coming) → IsBytes bytes → capture_of bytes ≡ Ok c → IsReadBy bytes c
read_by bytes c are_bytes h =
    let b = begun bytes c (header_of bytes) refl h in
    let f = b.format in
    let header = header_is_read bytes f are_bytes b.read in
    let all = read_from most_records f 0 24 (drop 24 bytes) (omega arith) (bytes_after bytes 24 are_bytes) in
    let read = subst (IsReadFrom f 0 24 (drop 24 bytes)) b.coming all in
    record {
      format = f;
      rest = read.rest;
      begins = record {
        header = take 24 bytes;
        is_header = header_read bytes f header;
        are_records = read.are_records;
        joined = sym (take-append-drop 24 bytes) ∙ ap (λ xs. take 24 bytes ++ xs) read.joined
            ∙ sym (append_assoc (take 24 bytes) (spelling f.order c.records) read.rest);
      };
      ends = subst (λ (n : ℕ). MatchOption c.fault (read.rest ≡ []) (λ e. (0 < length read.rest)
          × (fault_at f n (24 + length (spelling f.order c.records)) read.rest ≡ Some e)))
          (zero-add (length c.records)) read.ends;
    }

pub what_is_read : (bytes : List ℕ) (records : List Record) → IsBytes bytes →
    capture_of bytes ≡ Ok (record { records = records; fault = None }) → (f : Format) × IsCapture bytes f records
what_is_read bytes records are_bytes h =
    let found = read_by bytes (record { records = records; fault = None }) are_bytes h in
    let b = found.begins in (
      found.format,
      record {
        header = b.header;
        is_header = b.is_header;
        are_records = b.are_records;
        joined = b.joined ∙ ap (λ xs. b.header ++ spelling found.format.order records ++ xs) found.ends
            ∙ append-nil (b.header ++ spelling found.format.order records);
      },
    )

same_coming : (c d : Coming) → answer c.records c.fault ≡ answer d.records d.fault → c ≡ d
same_coming c d h = cc

same_answer : (records others : List Record) (fault other_fault : Option CaptureFault) →
    answer records fault ≡ answer others other_fault → (records ≡ others) × (fault ≡ other_fault)
same_answer records others fault other_fault h = grind (arith, same_coming)

same_format : (r : Result Format CaptureFault) (f g : Format) → r ≡ Ok f → r ≡ Ok g → f ≡ g
same_format r f g hf hg = cc

pub one_capture : (bytes : List ℕ) (f g : Format) (records others : List Record) → IsCapture bytes f records →
    IsCapture bytes g others → (f ≡ g) × (records ≡ others)
one_capture bytes f g records others h k = (
  same_format (header_of bytes) f g
      (spelled_header bytes h.header (spelling f.order records) f h.is_header h.joined).0
      (spelled_header bytes k.header (spelling g.order others) g k.is_header k.joined).0,
  (same_answer records others None None (sym (capture_read bytes f records h) ∙ capture_read bytes g others k)).0,
)

no_record_there : (f : Format) (number place : ℕ) (rest : List ℕ) (e : CaptureFault) → fault_at f number place rest
    ≡ Some e →
    (r : Record) (after : List ℕ) → IsRecordAt f.unit number place r → ¬ (rest ≡ record_spelling f.order r ++ after)
no_record_there f number place rest e h r after is_record spelled =
    not_some (fault_at f number place rest) e
    (fault_at-faultless f number place rest
    (spelled_record f number place r after rest is_record spelled).faultless) h

no_longer : (bytes : List ℕ) (f : Format) (records : List Record) (fault : Option CaptureFault) →
    capture_of bytes ≡ answer records fault →
    (others : List Record) (after : List ℕ) → BeginsWith bytes f others after → length others ≤ length records
no_longer bytes f records fault h others after b =
    let c = coming_from f (length others) (24 + length (spelling f.order others)) after in
    let e = same_answer records (others ++ c.records) fault c.fault (sym h ∙ capture_of-begins bytes f others after b)
    in
    let size = ap length e.0 ∙ length-append others c.records in
    omega (arith, size)

pub broken_after : (bytes : List ℕ) (records : List Record) (e : CaptureFault) → IsBytes bytes →
    capture_of bytes ≡ Ok (record { records = records; fault = Some e }) → IsBrokenAfter bytes records e
broken_after bytes records e are_bytes h =
    let found = read_by bytes (record { records = records; fault = Some e }) are_bytes h in
    let f = found.format in
    record {
      format = f;
      rest = found.rest;
      begins = found.begins;
      some_rest = found.ends.0;
      first_fault = found.ends.1;
      no_record = no_record_there f (length records) (24 + length (spelling f.order records)) found.rest e
          found.ends.1;
      longest = no_longer bytes f records (Some e) h;
    }

pub broken_read : (bytes : List ℕ) (records : List Record) (e : CaptureFault) → IsBrokenAfter bytes records e →
    capture_of bytes ≡ Ok (record { records = records; fault = Some e })
broken_read bytes records e h =
    let f = h.format in
    let end = coming_from_fault f (length records) (24 + length (spelling f.order records)) h.rest e h.some_rest
    h.first_fault in
    capture_of-begins bytes f records h.rest h.begins ∙ ap (λ c. Ok (after_records records c)) end
    ∙ ap (λ rs. answer rs (Some e)) (append-nil records)

header_refused : (bytes : List ℕ) (e : CaptureFault) (r : Result Format CaptureFault) → header_of bytes ≡ r →
    capture_of bytes ≡ Err e → header_of bytes ≡ Err e
header_refused bytes e (Ok f) h found = grind (arith, capture_of_begun)
header_refused bytes e (Err d) h found = grind (arith, capture_of_refused)

pub refused_for_header : (bytes : List ℕ) (e : CaptureFault) → IsBytes bytes → capture_of bytes ≡ Err e →
    HasHeaderFault bytes e
refused_for_header bytes e are_bytes h = grind (arith, header_has_fault, header_refused)

pub header_fault_refused : (bytes : List ℕ) (e : CaptureFault) → IsBytes bytes → HasHeaderFault bytes e →
    capture_of bytes ≡ Err e
header_fault_refused bytes e are_bytes h = capture_of_refused bytes e (header_fault_read bytes e are_bytes h)

pub no_header : (bytes : List ℕ) (e : CaptureFault) (f : Format) (header rest : List ℕ) → capture_of bytes ≡ Err e →
    IsHeader f header → ¬ (bytes ≡ header ++ rest)
no_header bytes e f header rest h is_header joined =
    let read = (spelled_header bytes header rest f is_header joined).0 in
    let wrong : Ok f ≡ Err e = sym read ∙ header_refused bytes e (header_of bytes) refl h in
    cc

ended : (bytes : List ℕ) (records : List Record) (o : Option CaptureFault) →
    capture_of bytes ≡ Ok (record { records = records; fault = o }) → IsBytes bytes →
    ((f : Format) × ((records : List Record) × IsCapture bytes f records)) ⊎ ((e : CaptureFault) × HasFault bytes e)
ended bytes records None h are_bytes = grind (arith, what_is_read)
ended bytes records (Some e) h are_bytes = inr (e, inr (records, broken_after bytes records e are_bytes h))

-- any bytes are a capture or have a fault
pub capture_or_fault : (bytes : List ℕ) (r : Result Coming CaptureFault) → capture_of bytes ≡ r → IsBytes bytes →
    ((f : Format) × ((records : List Record) × IsCapture bytes f records)) ⊎ ((e : CaptureFault) × HasFault bytes e)
capture_or_fault bytes (Err e) h are_bytes = inr (e, inl (refused_for_header bytes e are_bytes h))
capture_or_fault bytes (Ok c) h are_bytes = ended bytes c.records c.fault h are_bytes

-- the fault of an answer, if it has one
abbrev fault_of : Result Coming CaptureFault → Option CaptureFault
fault_of (Ok c) = c.fault
fault_of (Err e) = Some e

faulted : (bytes : List ℕ) (e : CaptureFault) → IsBytes bytes → HasFault bytes e → fault_of (capture_of bytes) ≡ Some e
faulted bytes e are_bytes (inl h) = ap fault_of (header_fault_refused bytes e are_bytes h)
faulted bytes e are_bytes (inr h) = ap fault_of (broken_read bytes h.0 e h.1)

-- a capture has none
pub capture_faultless : (bytes : List ℕ) (f : Format) (records : List Record) (e : CaptureFault) → IsBytes bytes →
    IsCapture bytes f records → ¬ HasFault bytes e
capture_faultless bytes f records e are_bytes h fault =
    not_some _ e (ap fault_of (capture_read bytes f records h)) (faulted bytes e are_bytes fault)

-- no bytes have two
pub one_fault : (bytes : List ℕ) (e d : CaptureFault) → IsBytes bytes → HasFault bytes e → HasFault bytes d → e ≡ d
one_fault bytes e d are_bytes first second =
    let same : Some e ≡ Some d = sym (faulted bytes e are_bytes first) ∙ faulted bytes d are_bytes second in cc
