-- A frame that passes the tests on its headers is its parts, joined.
use Rattle.std.proofs.Common.{◌≡◌, ℕ, ◌+◌, ◌-◌, ◌*◌, ◌/◌, ◌%◌, ◌^◌, ◌≤◌, List, [], ◌∷◌, ◌++◌, length, get_or, take, drop, Option, Some, None, refl, sym, ap, ◌∙◌, arith, inl, inr, append_assoc, slice_range}
use Rattle.std.proofs.lemmas.Bool.{cases_eq, eq-eqb, ne_eqb}
use Rattle.std.proofs.lemmas.List.{drop_more, length-drop, length-take, take-append-drop}
use Rattle.std.proofs.lemmas.List.Edits.{length-between}
use Rattle.std.proofs.lemmas.List.Folds.{drop_split}
use Rattle.byteorder.specs.Endian.{big_bytes}
use Rattle.frame_reader.specs.Frame.{Parts, Fit, HoldsDatagram, udp_bytes, total_length_of, ipv4_bytes, tag_bytes, word, header_end, header_length, packet_of, segment_of, fields_at}
use Rattle.frame_reader.proofs.Word.{ReadsBytes, ReadsBytes-drop, ReadsBytes-take, word_fits, drop-word}
use Rattle.frame_reader.proofs.HeaderTests.{IsLinked, IsPacket, IsSegment}

-- ---- Ethernet

-- what stands after the two addresses, with a tag and without
tagged_parts : (frame : List ℕ) → ReadsBytes frame → IsLinked frame → word frame 12 ≡ 0x8100
    → drop 12 frame ≡ tag_bytes (Some (word frame 14)) ++ ((0x08 ∷ 0x00 ∷ []) ++ packet_of frame)
unfolding packet_of
tagged_parts frame bytes l tagged =
    let end : header_end frame ≡ 18 = rw (eq-eqb (word frame 12) 0x8100 tagged) refl in
    let long : 18 ≤ length frame = omega (arith, l.header, end) in
    let kind : word frame 16 ≡ 0x0800 = ap (λ (n : ℕ). word frame (n - 2)) (sym end) ∙ l.kind in
    let a = rw tagged at (drop-word frame 12 14 bytes refl (omega arith)) in
    let b = drop-word frame 14 16 bytes refl (omega arith) in
    let c = rw kind at (drop-word frame 16 18 bytes refl (omega arith)) in
    rw (a, b, c, end) refl

untagged_parts : (frame : List ℕ) → ReadsBytes frame → IsLinked frame → (word frame 12 ≡ 0x8100 → ⊥)
    → drop 12 frame ≡ tag_bytes None ++ ((0x08 ∷ 0x00 ∷ []) ++ packet_of frame)
unfolding packet_of
untagged_parts frame bytes l untagged =
    let end : header_end frame ≡ 14 = rw (ne_eqb (word frame 12) 0x8100 untagged) refl in
    let kind : word frame 12 ≡ 0x0800 = ap (λ (n : ℕ). word frame (n - 2)) (sym end) ∙ l.kind in
    let a = rw kind at (drop-word frame 12 14 bytes refl l.shortest) in
    rw (a, end) refl

pub link_parts : (frame : List ℕ) → ReadsBytes frame → IsLinked frame
    → (tag : Option ℕ) × (frame ≡ take 12 frame ++ (tag_bytes tag ++ ((0x08 ∷ 0x00 ∷ []) ++ packet_of frame)))
link_parts frame bytes l =
    elim (cases_eq (word frame 12) 0x8100) [
      | inl tagged ↦ (
        Some (word frame 14),
        sym (take-append-drop 12 frame)
            ∙ ap (λ (t : List ℕ). take 12 frame ++ t) (tagged_parts frame bytes l tagged),
      )
      | inr untagged ↦ (
        None,
        sym (take-append-drop 12 frame)
            ∙ ap (λ (t : List ℕ). take 12 frame ++ t) (untagged_parts frame bytes l untagged),
      )
    ]

-- ---- UDP

pub segment_parts : (segment : List ℕ) → ReadsBytes segment → 8 ≤ length segment → 8 ≤ word segment 4
    → segment ≡ (big_bytes 2 (word segment 0) ++ big_bytes 2 (word segment 2) ++ big_bytes 2
    (word segment 4) ++ big_bytes 2 (word segment 6))
    ++ (slice_range segment 8 (word segment 4) ++ drop (word segment 4) segment)
segment_parts segment bytes long header =
    let a : segment ≡ big_bytes 2 (word segment 0) ++ drop 2 segment = drop-word segment 0 2 bytes refl (omega arith) in
    let b = drop-word segment 2 4 bytes refl (omega arith) in
    let c = drop-word segment 4 6 bytes refl (omega arith) in
    let d = drop-word segment 6 8 bytes refl (omega arith) in
    let front : big_bytes 2 (word segment 0) ++ drop 2 segment
    ≡ (big_bytes 2 (word segment 0) ++ big_bytes 2 (word segment 2) ++ big_bytes 2 (word segment 4) ++ big_bytes 2
    (word segment 6)) ++ drop 8 segment
    = rw (b, c, d) refl in
    a ∙ front ∙ ap
    (λ (t : List ℕ). (big_bytes 2 (word segment 0) ++ big_bytes 2 (word segment 2) ++ big_bytes 2
    (word segment 4) ++ big_bytes 2 (word segment 6)) ++ t)
    (drop_split segment 8 (word segment 4) header)

-- ---- IPv4

-- the header up to the addresses
abbrev fixed_part : List ℕ → List ℕ
fixed_part packet =
    ((4 * 16 + get_or packet 0 0 % 16) ∷ get_or packet 1 0 ∷ []) ++ big_bytes 2 (word packet 2) ++ big_bytes 2
    (word packet 4)
    ++ (64 * (word packet 6 / 2 ^ 14) ∷ 0 ∷ []) ++ (get_or packet 8 0 ∷ 17 ∷ []) ++ big_bytes 2 (word packet 10)

fixed_is : (packet : List ℕ) → ReadsBytes packet → IsPacket packet → packet ≡ fixed_part packet ++ drop 12 packet
fixed_is packet bytes p =
    let long : 20 ≤ length packet = p.shortest in
    let a : packet ≡ get_or packet 0 0 ∷ drop 1 packet = drop_more packet 0 0 (omega arith) in
    let b : drop 1 packet ≡ get_or packet 1 0 ∷ drop 2 packet = drop_more packet 1 0 (omega arith) in
    let c = drop-word packet 2 4 bytes refl (omega arith) in
    let d = drop-word packet 4 6 bytes refl (omega arith) in
    let f = drop-word packet 6 8 bytes refl (omega arith) in
    let g : drop 8 packet ≡ get_or packet 8 0 ∷ drop 9 packet = drop_more packet 8 0 (omega arith) in
    let h : drop 9 packet ≡ get_or packet 9 0 ∷ drop 10 packet = drop_more packet 9 0 (omega arith) in
    let k = drop-word packet 10 12 bytes refl (omega arith) in
    let version : get_or packet 0 0 ≡ 4 * 16 + get_or packet 0 0 % 16 = omega (arith, p.version) in
    let high : word packet 6 / 256 % 256 ≡ 64 * (word packet 6 / 2 ^ 14) =
    omega (arith, p.unfragmented, word_fits packet 6 bytes) in
    let low : word packet 6 % 256 ≡ 0 = omega (arith, p.unfragmented) in
    let tail : drop 1 packet ≡ get_or packet 1 0 ∷ (big_bytes 2 (word packet 2) ++ (big_bytes 2 (word packet 4)
    ++ ((64 * (word packet 6 / 2 ^ 14) ∷ 0 ∷ []) ++ (get_or packet 8 0 ∷ 17 ∷
    (big_bytes 2 (word packet 10) ++ drop 12 packet)))))
    = rw (b, c, d, f, high, low, g, h, p.protocol, k) refl in
    a ∙ ap (λ (n : ℕ). n ∷ drop 1 packet) version ∙ ap (λ (t : List ℕ). (4 * 16 + get_or packet 0 0 % 16) ∷ t) tail

pub packet_parts : (packet : List ℕ) → ReadsBytes packet → IsPacket packet
    → packet ≡ fixed_part
    packet ++ (slice_range packet 12
    16 ++ (slice_range packet 16 20 ++ (slice_range packet 20 (header_length packet)
    ++ (slice_range packet (header_length packet) (word packet 2) ++ drop (word packet 2) packet))))
packet_parts packet bytes p =
    let source = drop_split packet 12 16 (omega arith) in
    let destination = drop_split packet 16 20 (omega arith) in
    let options = drop_split packet 20 (header_length packet) p.header in
    let segment = drop_split packet (header_length packet) (word packet 2) p.total in
    fixed_is packet bytes p ∙ ap (λ (t : List ℕ). fixed_part packet ++ t)
    (source ∙ ap (λ (t : List ℕ). slice_range packet 12 16 ++ t)
    (destination ∙ ap (λ (t : List ℕ). slice_range packet 16 20 ++ t)
    (options ∙ ap (λ (t : List ℕ). slice_range packet 20 (header_length packet) ++ t) segment)))

-- ---- the whole frame

ReadsBytes-packet : (frame : List ℕ) → ReadsBytes frame → ReadsBytes (packet_of frame)
unfolding packet_of
ReadsBytes-packet frame bytes = ReadsBytes-drop (header_end frame) frame bytes

ReadsBytes-segment : (packet : List ℕ) → ReadsBytes packet → ReadsBytes (segment_of packet)
unfolding segment_of
ReadsBytes-segment packet bytes =
    ReadsBytes-take (word packet 2 - header_length packet) (drop (header_length packet) packet)
    (ReadsBytes-drop (header_length packet) packet bytes)

segment_is : (packet : List ℕ) → segment_of packet ≡ slice_range packet (header_length packet) (word packet 2)
unfolding segment_of
segment_is packet = refl

-- the parts by their places
abbrev parts_at : Option ℕ → List ℕ → List ℕ → List ℕ → Parts
parts_at tag frame packet segment = record {
  ethernet_addresses = take 12 frame;
  tag = tag;
  header_words = get_or packet 0 0 % 16;
  type_of_service = get_or packet 1 0;
  identification = word packet 4;
  flags = word packet 6 / 2 ^ 14;
  time_to_live = get_or packet 8 0;
  header_checksum = word packet 10;
  options = slice_range packet 20 (header_length packet);
  udp_checksum = word segment 6;
  rest = drop (word segment 4) segment;
  padding = drop (word packet 2) packet;
}

regrouped : (fixed source destination options segment padding : List ℕ)
    → (fixed ++ (source ++ (destination ++ (options ++ segment)))) ++ padding ≡ fixed ++
    (source ++ (destination ++ (options ++ (segment ++ padding))))
regrouped fixed source destination options segment padding = simp append_assoc

module _ (tag : Option ℕ) (frame packet segment : List ℕ) (packet_bytes : ReadsBytes packet)
    (segment_bytes : ReadsBytes segment)
    (p : IsPacket packet) (s : IsSegment segment)
    (cut : segment ≡ slice_range packet (header_length packet) (word packet 2)) where
  segment_length : length segment ≡ word packet 2 - header_length packet
  segment_length = rw cut (length-between packet (header_length packet) (word packet 2) p.whole)

  udp_length : 8 + length (slice_range segment 8 (word segment 4)) ≡ word segment 4
  udp_length = omega (arith, length-between segment 8 (word segment 4) s.whole, s.header)

  total_length : total_length_of (parts_at tag frame packet segment) (fields_at packet segment) ≡ word packet 2
  unfolding fields_at
  total_length = omega (arith, udp_length, segment_length, length-drop (word segment 4) segment, s.whole, p.total)

  udp_parts : udp_bytes (parts_at tag frame packet segment) (fields_at packet segment) ++ drop (word segment 4)
      segment ≡ segment
  unfolding fields_at
  udp_parts = rw udp_length (sym (segment_parts segment segment_bytes s.shortest s.header))

  ipv4_parts : ipv4_bytes (parts_at tag frame packet segment) (fields_at packet segment)
      ≡ fixed_part
      packet ++ (slice_range packet 12
      16 ++ (slice_range packet 16 20 ++ (slice_range packet 20 (header_length packet) ++ segment)))
  unfolding fields_at
  ipv4_parts = rw (total_length, udp_parts) refl

  packet_joined : ipv4_bytes (parts_at tag frame packet segment) (fields_at packet segment) ++ drop (word packet 2)
      packet ≡ packet
  packet_joined =
      ap (λ (t : List ℕ). t ++ drop (word packet 2) packet) ipv4_parts
      ∙ regrouped (fixed_part packet) (slice_range packet 12 16) (slice_range packet 16 20)
      (slice_range packet 20 (header_length packet)) segment (drop (word packet 2) packet)
      ∙ rw cut (sym (packet_parts packet packet_bytes p))

  parts_fit : 12 ≤ length frame → Fit (parts_at tag frame packet segment) (fields_at packet segment)
  unfolding fields_at
  parts_fit long = record {
    ethernet_addresses = omega (arith, length-take 12 frame);
    header = omega (arith, length-between packet 20 (header_length packet) (omega (arith, p.total, p.whole)), p.header);
    header_words = omega arith;
    flags = omega (arith, word_fits packet 6 packet_bytes);
    total_length = omega (arith, total_length, word_fits packet 2 packet_bytes);
    source = length-between packet 12 16 (omega (arith, p.shortest));
    destination = length-between packet 16 20 p.shortest;
    source_port = word_fits segment 0 segment_bytes;
    destination_port = word_fits segment 2 segment_bytes;
  }

-- a frame that passes the tests holds the datagram that stands at their places
pub parted : (frame : List ℕ) → ReadsBytes frame → IsLinked frame → IsPacket (packet_of frame)
    → IsSegment (segment_of (packet_of frame))
    → HoldsDatagram frame (fields_at (packet_of frame) (segment_of (packet_of frame)))
parted frame bytes l p s =
    let packet_bytes : ReadsBytes (packet_of frame) = ReadsBytes-packet frame bytes in
    let segment_bytes : ReadsBytes (segment_of (packet_of frame)) = ReadsBytes-segment (packet_of frame) packet_bytes in
    let cut = segment_is (packet_of frame) in
    let link = link_parts frame bytes l in
    record {
      parts = parts_at link.0 frame (packet_of frame) (segment_of (packet_of frame));
      fit = parts_fit link.0 frame (packet_of frame) (segment_of (packet_of frame)) packet_bytes segment_bytes p s cut
          (omega (arith, l.shortest));
      joined = link.1 ∙ ap (λ (t : List ℕ). take 12 frame ++ (tag_bytes link.0 ++ ((0x08 ∷ 0x00 ∷ []) ++ t)))
          (sym (packet_joined link.0 frame (packet_of frame) (segment_of (packet_of frame)) packet_bytes segment_bytes
          p s cut));
    }
