-- Parts that are joined pass the tests on the headers, and stand at their places.
use Rattle.std.proofs.Common.{◌≡◌, ℕ, ◌+◌, ◌-◌, ◌*◌, ◌/◌, ◌%◌, ◌^◌, List, [], ◌∷◌, ◌++◌, length, take, drop, Option, Some, None, refl, sym, ap, ◌∙◌, arith, append_assoc, slice_range, subst}
use Rattle.std.proofs.lemmas.List.{drop_at, length-append, take_at}
use Rattle.std.proofs.Math.Seq.{drop-append-add}
use Rattle.byteorder.specs.Endian.{big_bytes}
use Rattle.frame_reader.specs.Frame.{Fields, Parts, Fit, HoldsDatagram, udp_bytes, total_length_of, ipv4_bytes, tag_bytes, frame_bytes, word, header_end, header_length, packet_of, segment_of, fields_at}
use Rattle.frame_reader.proofs.Word.{word_is, word-append}
use Rattle.frame_reader.proofs.HeaderTests.{IsLinked, IsPacket, IsSegment}

drop-behind : (xs ys : List ℕ) (n i : ℕ) → length xs ≡ n → drop (n + i) (xs ++ ys) ≡ drop i ys
drop-behind xs ys n i len = rw (← len) (drop-append-add xs ys i)

-- ---- Ethernet

-- the two bytes at the front as a word
word-front : (a b : ℕ) (ys : List ℕ) → word (a ∷ b ∷ ys) 0 ≡ 256 * a + b
word-front a b ys = word_is (a ∷ b ∷ ys) 0

pub record Linked (frame packet : List ℕ) : Type 0 where
  pub tests : IsLinked frame
  pub behind : packet_of frame ≡ packet

pub link_joined : (addresses : List ℕ) (tag : Option ℕ) (packet : List ℕ) → length addresses ≡ 12
    → Linked (addresses ++ (tag_bytes tag ++ ((0x08 ∷ 0x00 ∷ []) ++ packet))) packet
unfolding packet_of
link_joined addresses None packet len =
    let frame : List ℕ = addresses ++ (0x08 ∷ 0x00 ∷ packet) in
    let kind : word frame 12 ≡ 0x0800 =
    word-append addresses (0x08 ∷ 0x00 ∷ packet) 12 0 len ∙ word-front 0x08 0x00 packet in
    let end : header_end frame ≡ 14 = rw kind refl in
    let long = length-append addresses (0x08 ∷ 0x00 ∷ packet) in
    record {
      tests = record {
        shortest = omega (arith, long, len);
        header = omega (arith, long, len, end);
        kind = ap (λ (n : ℕ). word frame (n - 2)) end ∙ kind;
      };
      behind = rw end (drop-behind addresses (0x08 ∷ 0x00 ∷ packet) 12 2 len);
    }
link_joined addresses (Some control) packet len =
    let behind : List ℕ = 0x81 ∷ 0x00 ∷ control / 256 % 256 ∷ control % 256 ∷ 0x08 ∷ 0x00 ∷ packet in
    let frame : List ℕ = addresses ++ behind in
    let tagged : word frame 12 ≡ 0x8100 = word-append addresses behind 12 0 len ∙ word_is behind 0 in
    let kind : word frame 16 ≡ 0x0800 = word-append addresses behind 12 4 len ∙ word_is behind 4 in
    let end : header_end frame ≡ 18 = rw tagged refl in
    let long = length-append addresses behind in
    record {
      tests = record {
        shortest = omega (arith, long, len);
        header = omega (arith, long, len, end);
        kind = ap (λ (n : ℕ). word frame (n - 2)) end ∙ kind;
      };
      behind = rw end (drop-behind addresses behind 12 6 len);
    }

-- ---- IPv4 and UDP

-- the IPv4 header
abbrev header_of : Parts → Fields → List ℕ
header_of p d =
    ((4 * 16 + p.header_words) ∷ p.type_of_service ∷ []) ++ big_bytes 2 (total_length_of p d)
    ++ big_bytes 2 p.identification ++ (64 * p.flags ∷ 0 ∷ [])
    ++ (p.time_to_live ∷ 17 ∷ []) ++ big_bytes 2 p.header_checksum
    ++ (d.source ++ (d.destination ++ p.options))

regrouped : (source destination options segment padding : List ℕ)
    → (source ++ (destination ++ (options ++ segment))) ++ padding ≡ (source ++ (destination ++ options)) ++
    (segment ++ padding)
regrouped source destination options segment padding = simp append_assoc

module _ (p : Parts) (d : Fields) (fit : Fit p d) where
  -- UDP's bytes and what is after them
  abbrev segment : List ℕ
  segment = udp_bytes p d ++ p.rest

  abbrev packet : List ℕ
  packet = ipv4_bytes p d ++ p.padding

  packet_is : packet ≡ header_of p d ++ (segment ++ p.padding)
  packet_is = rw (regrouped d.source d.destination p.options (udp_bytes p d ++ p.rest) p.padding) refl

  header_length_is : header_length packet ≡ 4 * p.header_words
  header_length_is = omega (arith, fit.header_words)

  length-header : length (header_of p d) ≡ 4 * p.header_words
  length-header = grind (arith, length-append)

  length-segment : length segment ≡ 8 + length d.payload + length p.rest
  length-segment = omega (arith, length-append d.payload p.rest)

  length-packet : length packet ≡ total_length_of p d + length p.padding
  length-packet = grind (arith, length, packet_is, length-append, segment, length-header, length-segment)

  total_is : word packet 2 ≡ total_length_of p d
  total_is = omega (arith, word_is packet 2, fit.total_length)

  fragment_is : word packet 6 ≡ 2 ^ 14 * p.flags
  fragment_is = omega (arith, word_is packet 6)

  packet_tests : IsPacket packet
  packet_tests = grind (arith, length-packet, header_length_is, total_is, fragment_is)

  segment_is : segment_of packet ≡ segment
  unfolding segment_of
  segment_is =
      let behind : drop (4 * p.header_words) packet ≡ segment ++ p.padding =
      ap (λ (t : List ℕ). drop (4 * p.header_words) t) packet_is
      ∙ drop_at (header_of p d) (segment ++ p.padding) (4 * p.header_words) length-header in
      rw (header_length_is, total_is, behind)
      (take_at segment p.padding (total_length_of p d - 4 * p.header_words) (omega (arith, length-segment)))

  udp_length_is : word segment 4 ≡ 8 + length d.payload
  udp_length_is = omega (arith, word_is segment 4, fit.total_length)

  segment_tests : IsSegment segment
  segment_tests = grind (arith, length-segment, udp_length_is)

  source_is : slice_range packet 12 16 ≡ d.source
  source_is =
      ap (λ (t : List ℕ). take 4 t) (append_assoc d.source (d.destination ++ (p.options ++ segment)) p.padding)
      ∙ take_at d.source ((d.destination ++ (p.options ++ segment)) ++ p.padding) 4 fit.source

  destination_is : slice_range packet 16 20 ≡ d.destination
  destination_is =
      ap (λ (t : List ℕ). take 4 (drop 4 t)) (append_assoc d.source (d.destination ++ (p.options ++ segment)) p.padding)
      ∙ ap (λ (t : List ℕ). take 4 t)
      (drop_at d.source ((d.destination ++ (p.options ++ segment)) ++ p.padding) 4 fit.source)
      ∙ ap (λ (t : List ℕ). take 4 t) (append_assoc d.destination (p.options ++ segment) p.padding)
      ∙ take_at d.destination ((p.options ++ segment) ++ p.padding) 4 fit.destination

  source_port_is : word segment 0 ≡ d.source_port
  source_port_is = omega (arith, word_is segment 0, fit.source_port)

  destination_port_is : word segment 2 ≡ d.destination_port
  destination_port_is = omega (arith, word_is segment 2, fit.destination_port)

  payload_is : slice_range segment 8 (word segment 4) ≡ d.payload
  payload_is = rw udp_length_is (take_at d.payload p.rest (8 + length d.payload - 8) (omega arith))

  fields_are : fields_at packet segment ≡ d
  unfolding fields_at
  fields_are = rw (source_is, destination_is, source_port_is, destination_port_is, payload_is) refl

pub record Joined (frame : List ℕ) (d : Fields) : Type 0 where
  pub link : IsLinked frame
  pub packet : IsPacket (packet_of frame)
  pub segment : IsSegment (segment_of (packet_of frame))
  pub fields : fields_at (packet_of frame) (segment_of (packet_of frame)) ≡ d

-- a frame that holds a datagram passes the tests, and the datagram stands at their places
pub joined : (frame : List ℕ) (d : Fields) → HoldsDatagram frame d → Joined frame d
joined frame d h =
    let p : Parts = h.parts in
    let link : Linked (frame_bytes p d) (ipv4_bytes p d ++ p.padding) =
    link_joined p.ethernet_addresses p.tag (ipv4_bytes p d ++ p.padding) h.fit.ethernet_addresses in
    let at : packet_of frame ≡ ipv4_bytes p d ++ p.padding = ap packet_of h.joined ∙ link.behind in
    let cut : segment_of (packet_of frame) ≡ udp_bytes p d ++ p.rest = ap segment_of at ∙ segment_is p d h.fit in
    record {
      link = subst IsLinked (sym h.joined) link.tests;
      packet = subst IsPacket (sym at) (packet_tests p d h.fit);
      segment = subst IsSegment (sym cut) (segment_tests p d h.fit);
      fields = ap (λ (t : List ℕ). fields_at t (segment_of (packet_of frame))) at ∙ ap
          (λ (t : List ℕ). fields_at (ipv4_bytes p d ++ p.padding) t) cut ∙ fields_are p d h.fit;
    }

-- how long the packet is, with the padding
pub length_held : (frame : List ℕ) (d : Fields) → (h : HoldsDatagram frame d)
    → length (packet_of frame) ≡ word (packet_of frame) 2 + length h.parts.padding
length_held frame d h =
    let p : Parts = h.parts in
    let link : Linked (frame_bytes p d) (ipv4_bytes p d ++ p.padding) =
    link_joined p.ethernet_addresses p.tag (ipv4_bytes p d ++ p.padding) h.fit.ethernet_addresses in
    let at : packet_of frame ≡ ipv4_bytes p d ++ p.padding = ap packet_of h.joined ∙ link.behind in
    let long : length (packet_of frame) ≡ total_length_of p d + length p.padding =
    ap length at ∙ length-packet p d h.fit in
    let total : word (packet_of frame) 2 ≡ total_length_of p d =
    ap (λ (t : List ℕ). word t 2) at ∙ total_is p d h.fit in
    omega (arith, long, total)
