-- A frame that is cut within its IPv4 packet is short, and bytes after the packet change nothing.
use Rattle.std.proofs.Common.{◌≡◌, ℕ, ◌+◌, ◌-◌, ◌/◌, ◌<◌, ◌≤◌, ◌⊎◌, List, ◌++◌, length, get_or, take, drop, Some, None, refl, ap, ◌∙◌, arith, inl, inr, append_assoc}
use Rattle.std.proofs.lemmas.Bool.{cases_eq, cases_lt, eq-eqb, le-ltb, lt-ltb, ne_eqb}
use Rattle.std.proofs.lemmas.List.{drop-take, get_or-take, length-drop, length-take-le}
use Rattle.frame_reader.specs.declared.skip.Skip.TheVariants.{Short}
use Rattle.frame_reader.specs.Frame.{Fields, Parts, HoldsDatagram, word, header_end, header_length, link_skip, packet_of, packet_skip, skip_of}
use Rattle.frame_reader.proofs.Word.{word_is}
use Rattle.frame_reader.proofs.HeaderTests.{IsLinked, IsPacket, link_passes}
use Rattle.frame_reader.proofs.Completeness.{joined, length_held}

word-take : (n : ℕ) (xs : List ℕ) (i : ℕ) → i + 2 ≤ n → word (take n xs) i ≡ word xs i
word-take n xs i inside = grind (arith, get_or, take, get_or-take, word_is)

header_end_cases : (frame : List ℕ) → (header_end frame ≡ 14) ⊎ (header_end frame ≡ 18)
header_end_cases frame = grind (arith, cases_eq, word, inl, inr, eq-eqb, ne_eqb)

header_end_least : (frame : List ℕ) → 14 ≤ header_end frame
header_end_least frame = elim (header_end_cases frame) [ inl e ↦ omega (arith, e) | inr e ↦ omega (arith, e) ]

cut_packet : (packet : List ℕ) (m : ℕ) → IsPacket packet → m < word packet 2 → packet_skip (take m packet) ≡ Some Short
unfolding packet_skip
cut_packet packet m p inside =
    let long : length (take m packet) ≡ m = length-take-le m packet (omega (arith, p.whole)) in
    elim (cases_lt m 20) [
      | inl torn ↦ rw (long, lt-ltb m 20 torn) refl
      | inr enough ↦
          let first : get_or (take m packet) 0 0 ≡ get_or packet 0 0 = get_or-take m packet 0 0 (omega arith) in
          let total : word (take m packet) 2 ≡ word packet 2 = word-take m packet 2 (omega arith) in
          rw (
            long,
            first,
            total,
            le-ltb m 20 enough,
            eq-eqb (get_or packet 0 0 / 16) 4 p.version,
            le-ltb (header_length packet) 20 p.header,
            le-ltb (word packet 2) (header_length packet) p.total,
            lt-ltb m (word packet 2) inside,
          ) refl
    ]

-- what is left of a cut frame, if its Ethernet header is
record Left (frame : List ℕ) (n : ℕ) : Type 0 where
  header : header_end frame ≤ n
  link : link_skip (take n frame) ≡ None
  behind : packet_of (take n frame) ≡ take (n - header_end frame) (packet_of frame)

same_end : (frame : List ℕ) (n : ℕ) → 14 ≤ n → header_end (take n frame) ≡ header_end frame
same_end frame n enough = grind (arith, word, take, word-take)

torn_link : (frame : List ℕ) (n : ℕ) → n ≤ length frame → 14 ≤ n → n < header_end frame
    → link_skip (take n frame) ≡ Some Short
unfolding link_skip
torn_link frame n within enough torn = grind (arith, length, take, length-take-le, same_end, le-ltb, lt-ltb, header_end)

torn_start : (frame : List ℕ) (n : ℕ) → n ≤ length frame → n < 14 → link_skip (take n frame) ≡ Some Short
unfolding link_skip
torn_start frame n within torn = grind (arith, length, take, length-take-le, lt-ltb)

left_link : (frame : List ℕ) (n : ℕ) → IsLinked frame → n ≤ length frame → header_end frame ≤ n → Left frame n
unfolding packet_of
left_link frame n l within whole =
    let least = header_end_least frame in
    let enough : 14 ≤ n = omega arith in
    let long : length (take n frame) ≡ n = length-take-le n frame within in
    let end = same_end frame n enough in
    let kind : word (take n frame) (header_end frame - 2) ≡ word frame (header_end frame - 2) =
    word-take n frame (header_end frame - 2) (omega arith) in
    let sum : n ≡ header_end frame + (n - header_end frame) = omega arith in
    record {
      header = whole;
      link = link_passes (take n frame) record {
        shortest = omega arith;
        header = omega arith;
        kind = ap (λ (k : ℕ). word (take n frame) (k - 2)) end ∙ kind ∙ l.kind;
      };
      behind = ap (λ (k : ℕ). drop k (take n frame)) end
          ∙ ap (λ (k : ℕ). drop (header_end frame) (take k frame)) sum
          ∙ drop-take (header_end frame) (n - header_end frame) frame;
    }

cut_link : (frame : List ℕ) (n : ℕ) → IsLinked frame → n ≤ length frame → (link_skip (take n frame) ≡ Some Short)
    ⊎ Left frame n
cut_link frame n l within = grind (arith, cases_lt, inl, torn_start, inr, header_end, torn_link, left_link)

length-packet_of : (frame : List ℕ) → length (packet_of frame) ≡ length frame - header_end frame
unfolding packet_of
length-packet_of frame = length-drop (header_end frame) frame

skip-cut : (frame : List ℕ) (n : ℕ) → IsLinked frame → IsPacket (packet_of frame)
    → n < header_end frame + word (packet_of frame) 2
    → skip_of (take n frame) ≡ Some Short
unfolding skip_of
skip-cut frame n l p inside =
    let within : n ≤ length frame = omega (arith, length-packet_of frame, l.header, p.whole) in
    elim (cut_link frame n l within) [
      | inl torn ↦ rw torn refl
      | inr left ↦
          let m : n - header_end frame < word (packet_of frame) 2 =
          omega (arith, left.header, header_end_least frame, p.header, p.total) in
          rw (left.link, left.behind, cut_packet (packet_of frame) (n - header_end frame) p m) refl
    ]

pub skip-cut_held : (frame : List ℕ) (d : Fields) (n : ℕ) → (held : HoldsDatagram frame d)
    → n + length held.parts.padding < length frame
    → skip_of (take n frame) ≡ Some Short
skip-cut_held frame d n held inside =
    let j = joined frame d held in
    skip-cut frame n j.link j.packet (omega (arith, length_held frame d held, length-packet_of frame, j.link.header))

pub more_padding : (frame more : List ℕ) (d : Fields) → HoldsDatagram frame d → HoldsDatagram (frame ++ more) d
more_padding frame more d held =
    let p : Parts = held.parts in
    record {
      parts = record p { padding = p.padding ++ more };
      fit = record {
        ethernet_addresses = held.fit.ethernet_addresses;
        header = held.fit.header;
        header_words = held.fit.header_words;
        flags = held.fit.flags;
        total_length = held.fit.total_length;
        source = held.fit.source;
        destination = held.fit.destination;
        source_port = held.fit.source_port;
        destination_port = held.fit.destination_port;
      };
      joined = ap (λ (t : List ℕ). t ++ more) held.joined ∙ simp append_assoc;
    }
