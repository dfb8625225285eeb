-- What is to come of bytes that begin with records, and what the bytes are of which something is to come.
use Rattle.pcap_reader.proofs.Common.{◌≡◌, ◌+◌, ◌-◌, ◌<◌, ℕ, zero, suc, List, [], ◌∷◌, ◌++◌, length, drop, Option, Some, None, refl, sym, ap, subst, ◌∙◌, arith, append_assoc, length-append, add-zero, MatchOption, CaptureFault, TooMany, Format, IsBytes, Record, IsRecordAt, AreRecordsFrom, record_spelling, spelling, most_records, Coming, coming_from, broken_end, whole_end, then_coming, fault_at, record_at, captured_in}
use Rattle.pcap_reader.proofs.Remaining.{coming_from-nil, coming_from_fault, coming_from_record, coming_from_read}
use Rattle.pcap_reader.proofs.RecordFault.{fault_at_most}
use Rattle.pcap_reader.proofs.Parts.{bytes_after}
use Rattle.pcap_reader.proofs.RecordBytes.{fault_at-faultless, faultless, spelled_record, read_record, read_bytes, length-record_spelling}

-- these records, and then what is to come
abbrev pub after_records : List Record → Coming → Coming
after_records rs c = record { records = rs ++ c.records; fault = c.fault }

pub same_place : (f : Format) (n m p q : ℕ) (bytes : List ℕ) → n ≡ m → p ≡ q →
    coming_from f n p bytes ≡ coming_from f m q bytes
same_place f n m p q bytes hn hp = rw (hn, hp) refl

-- records that are spelled come first
pub coming_from-spelled : (f : Format) (number place : ℕ) (rs : List Record) (rest : List ℕ) →
    AreRecordsFrom f.unit number place rs →
    coming_from f number place (spelling f.order rs ++ rest)
    ≡ after_records rs (coming_from f (number + length rs) (place + length (spelling f.order rs)) rest)
coming_from-spelled f number place [] rest h = grind (arith, same_place)
coming_from-spelled f number place (r ∷ rs) rest h =
    let tail = spelling f.order rs ++ rest in
    let e : spelling f.order (r ∷ rs) ++ rest ≡ record_spelling f.order r ++ tail =
    append_assoc (record_spelling f.order r) (spelling f.order rs) rest in
    let read = spelled_record f number place r tail (spelling f.order (r ∷ rs) ++ rest) h.0 e in
    let long : 0 < length (spelling f.order (r ∷ rs) ++ rest) = omega (arith, read.faultless.head) in
    let first = coming_from_read f number place (spelling f.order (r ∷ rs) ++ rest) r.head r.bytes tail long
    (fault_at-faultless f number place _ read.faultless) read.head read.lent read.rest_is in
    let whole : r.head.captured ≡ length r.bytes = sym h.0.whole in
    let here = same_place f (number + 1) (number + 1) (place + (16 + r.head.captured))
    (place + (16 + length r.bytes)) tail refl (omega arith) in
    let others = coming_from-spelled f (number + 1) (place + (16 + length r.bytes)) rs rest h.1 in
    let size : length (spelling f.order (r ∷ rs)) ≡ 16 + length r.bytes + length (spelling f.order rs) =
    length-append (record_spelling f.order r) (spelling f.order rs) ∙ ap (λ k. k + length (spelling f.order rs))
    (length-record_spelling f.order r) in
    let there = same_place f (number + 1 + length rs) (number + length (r ∷ rs))
    (place + (16 + length r.bytes) + length (spelling f.order rs)) (place + length (spelling f.order (r ∷ rs)))
    rest (omega arith) (omega (arith, size)) in
    first ∙ ap (then_coming r) (here ∙ others ∙ ap (after_records rs) there)

-- The bytes are the spellings of what is to come, and a rest: none where the end is whole, and else the fault is
-- the first that applies to it.
pub record IsReadFrom (f : Format) (number place : ℕ) (bytes : List ℕ) (c : Coming) : Type 0 where
  pub rest : List ℕ
  pub are_records : AreRecordsFrom f.unit number place c.records
  pub joined : bytes ≡ spelling f.order c.records ++ rest
  pub ends : MatchOption c.fault (rest ≡ []) (λ e. (0 < length rest)
      × (fault_at f (number + length c.records) (place + length (spelling f.order c.records)) rest ≡ Some e))

read_end : (f : Format) (number place : ℕ) → IsReadFrom f number place [] whole_end
read_end f number place = record { rest = []; are_records = tt; joined = refl; ends = refl }

read_fault : (f : Format) (number place : ℕ) (bytes : List ℕ) (e : CaptureFault) → 0 < length bytes →
    fault_at f number place bytes ≡ Some e → IsReadFrom f number place bytes (broken_end e)
read_fault f number place bytes e some h = grind (arith, add-zero)

read_first : (f : Format) (number place : ℕ) (bytes : List ℕ) (r : Record) (after : List ℕ) (c : Coming) →
    IsRecordAt f.unit number place r → bytes ≡ record_spelling f.order r ++ after →
    IsReadFrom f (number + 1) (place + (16 + length r.bytes)) after c →
    IsReadFrom f number place bytes (then_coming r c)
read_first f number place bytes r after c first e others =
    grind (arith, length-append, length-record_spelling, append_assoc)

read_step : (left : ℕ) (f : Format) (number place : ℕ) (bytes : List ℕ) (o : Option CaptureFault) →
    fault_at f number place bytes ≡ o → suc left ≡ most_records - number → 0 < length bytes → IsBytes bytes →
    ((n p : ℕ) (xs : List ℕ) → left ≡ most_records - n → IsBytes xs → IsReadFrom f n p xs (coming_from f n p xs)) →
    IsReadFrom f number place bytes (coming_from f number place bytes)
read_step left f number place bytes (Some e) h few some are_bytes others = grind (arith, coming_from_fault, read_fault)
read_step left f number place bytes None h few some are_bytes others =
    let fine = faultless f number place bytes h in
    let r = record_at f number place bytes in
    let first = read_record f number place bytes are_bytes fine in
    let whole : captured_in f.order bytes ≡ length r.bytes = sym first.whole in
    let after = drop (16 + captured_in f.order bytes) bytes in
    let next = others (number + 1) (place + (16 + captured_in f.order bytes)) after (omega arith)
    (bytes_after bytes _ are_bytes) in
    let c = coming_from f (number + 1) (place + (16 + captured_in f.order bytes)) after in
    let moved = subst (λ (q : ℕ). IsReadFrom f (number + 1) q after c) (ap (λ k. place + (16 + k)) whole) next in
    subst (IsReadFrom f number place bytes) (sym (coming_from_record f number place bytes some h))
    (read_first f number place bytes r after c first (read_bytes f number place bytes are_bytes fine) moved)

pub read_from : (left : ℕ) (f : Format) (number place : ℕ) (bytes : List ℕ) → left ≡ most_records - number →
    IsBytes bytes → IsReadFrom f number place bytes (coming_from f number place bytes)
read_from left f number place [] few are_bytes = grind (arith, coming_from-nil, read_end)
read_from zero f number place (b ∷ bs) few are_bytes =
    let h = fault_at_most f number place (b ∷ bs) (omega arith) in
    let some : 0 < length (b ∷ bs) = omega arith in
    subst (IsReadFrom f number place (b ∷ bs)) (sym (coming_from_fault f number place (b ∷ bs) TooMany some h))
    (read_fault f number place (b ∷ bs) TooMany some h)
read_from (suc left) f number place (b ∷ bs) few are_bytes =
    read_step left f number place (b ∷ bs) (fault_at f number place (b ∷ bs)) refl few (omega arith) are_bytes
    (λ n p xs. read_from left f n p xs)
