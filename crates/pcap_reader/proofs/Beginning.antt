-- What the header at the front of a feed's bytes tells of all of them.
use Rattle.pcap_reader.proofs.Common.{◌≡◌, ◌<◌, ◌≤◌, ℕ, List, [], ◌++◌, length, drop, Option, Some, None, Ok, Err, IfSome, sym, ap, ◌∙◌, arith, Keeps, IsAtEnd, prepend_known, drop-append-le, CountsFault, TakesAtMost, FeedState, Buffered, Format, CaptureFault, Read, Memory, held_bytes, IsHeaderFault, header_of, buffer_size, capture_of, is_read}
use Rattle.pcap_reader.specs.Refusal.{IsRefusal, most_refused}
use Rattle.pcap_reader.proofs.Prefix.{header_front, header_fault}
use Rattle.pcap_reader.proofs.Remaining.{capture_of_refused}

-- at first nothing is held
pub held-none : {F : Type 0} (b : Buffered F) → b.end ≡ 0 → held_bytes b ≡ []
held-none b none = grind arith

pub Keeps-first : (all a : Option (List ℕ)) (held held' : List ℕ) → held ≡ [] →
    Keeps (prepend_known held all) (prepend_known held' a) → Keeps all (prepend_known held' a)
Keeps-first None a held held' none keeps = tt
Keeps-first (Some x) None held held' none keeps = absurd keeps
Keeps-first (Some x) (Some y) held held' none keeps = keeps ∙ ap (λ l. l ++ x) none

refusal_is : (all : Option (List ℕ)) (e : CaptureFault) → IsHeaderFault e →
    IfSome all (λ bytes. capture_of bytes ≡ Err e) →
    IsRefusal all e
refusal_is all Read h k = tt
refusal_is all Memory h k = tt
refusal_is all e h k = (h, k)

-- the header has a fault
pub header_refused : (all a : Option (List ℕ)) (held : List ℕ) (e : CaptureFault) → Keeps all (prepend_known held a) →
    (length held < 24 → IsAtEnd a) → header_of held ≡ Err e → IsRefusal all e
header_refused None a held e keeps end h = refusal_is None e (header_fault held e h) tt
header_refused (Some x) None held e keeps end h = absurd keeps
header_refused (Some x) (Some y) held e keeps end h =
    grind (arith, capture_of_refused, header_front, refusal_is, header_fault)

-- the header is lawful, and was taken
pub header_begun : (all a : Option (List ℕ)) (held rest : List ℕ) (f : Format) → Keeps all (prepend_known held a) →
    24 ≤ length held → header_of held ≡ Ok f → rest ≡ drop 24 held →
    IfSome all (λ bytes. (header_of bytes ≡ Ok f) × (prepend_known rest a ≡ Some (drop 24 bytes)))
header_begun None a held rest f keeps long h rest_is = tt
header_begun (Some x) None held rest f keeps long h rest_is = absurd keeps
header_begun (Some x) (Some y) held rest f keeps long h rest_is =
    let short : length held < 24 → y ≡ [] = λ few. absurd (omega arith) in (
      ap header_of (sym keeps) ∙ header_front held y short ∙ h,
      ap Some (ap (λ l. l ++ y) rest_is ∙ sym (drop-append-le 24 held y long) ∙ ap (drop 24) keeps),
    )

-- a header's fault is no failure of the device, and not that memory ran out
pub header_fault_counts : (e : CaptureFault) (n m : ℕ) → IsHeaderFault e → m ≡ n → CountsFault (is_read e) n m
header_fault_counts Read n m h same = absurd h
header_fault_counts e n m h same = same

pub not_memory : (e : CaptureFault) → IsHeaderFault e → e ≡ Memory → ⊥
not_memory Memory h same = h
not_memory e h same = cc

-- one buffer was taken for it at most
pub header_fault_most : (e : CaptureFault) (a b : FeedState) → IsHeaderFault e → TakesAtMost buffer_size a b →
    TakesAtMost (most_refused e) a b
header_fault_most Read a b h takes = absurd h
header_fault_most Memory a b h takes = absurd h
header_fault_most e a b h takes = takes
