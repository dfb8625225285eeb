-- Ethernet II frames that carry UDP over IPv4.
--
-- The first half says what a frame with a datagram is, as a list of parts that are joined: RFC 768
-- for UDP, RFC 791 section 3.1 for IPv4, RFC 894 for its type on Ethernet, and IEEE 802.1Q for the
-- tag. The second half says what any frame gives: its fields by their places, or the first reason
-- to skip it.
use Rattle.std.specs.Prelude.{◌≡◌, ℕ, ◌+◌, ◌-◌, ◌*◌, ◌/◌, ◌%◌, ◌^◌, ◌<◌, List, [], ◌∷◌, ◌++◌, length, drop, Option, Some, None, Result, Ok, Err, nat_lt, ◌==◌, not, if◌then◌else◌, slice_index, slice_range}
use Rattle.std.specs.Option.{option_or}
use Rattle.byteorder.specs.Endian.{big_bytes, big_number}
use Rattle.frame_reader.specs.declared.kinds.Datagram.{Datagram}
use Rattle.frame_reader.specs.declared.skip.Skip.{Skip}
use Rattle.frame_reader.specs.declared.skip.Skip.TheVariants.{Short, OtherType, IpHeader, Fragment, OtherProtocol, UdpLength}

-- what a datagram shows: the IPv4 addresses, four bytes each, the UDP ports and the payload
pub record Fields : Type 0 where
  pub source : List ℕ
  pub destination : List ℕ
  pub source_port : ℕ
  pub destination_port : ℕ
  pub payload : List ℕ

-- a `Datagram` without the place of its payload in memory
abbrev pub fields_of : Datagram → Fields
fields_of d = record {
  source = d.source;
  destination = d.destination;
  source_port = d.source_port;
  destination_port = d.destination_port;
  payload = d.payload.now;
}

-- ---- a frame with a datagram

-- what a frame has beside the fields of its datagram
pub record Parts : Type 0 where
  -- the two Ethernet addresses, and the control information of the tag, if there is one
  pub ethernet_addresses : List ℕ
  pub tag : Option ℕ
  -- the IPv4 header: its length in words of four bytes, and the two flags beside more-fragments
  pub header_words : ℕ
  pub type_of_service : ℕ
  pub identification : ℕ
  pub flags : ℕ
  pub time_to_live : ℕ
  pub header_checksum : ℕ
  pub options : List ℕ
  pub udp_checksum : ℕ
  -- the rest of the IPv4 packet after the UDP datagram, and the rest of the frame after the packet
  pub rest : List ℕ
  pub padding : List ℕ

-- a UDP datagram is its ports, its length with the eight bytes of this header, its checksum, and
-- the payload
abbrev pub udp_bytes : Parts → Fields → List ℕ
udp_bytes p d =
    big_bytes 2 d.source_port ++ big_bytes 2 d.destination_port
    ++ big_bytes 2 (8 + length d.payload) ++ big_bytes 2 p.udp_checksum ++ d.payload

-- the length of an IPv4 packet counts its header and all that it carries
abbrev pub total_length_of : Parts → Fields → ℕ
total_length_of p d = 4 * p.header_words + (8 + length d.payload + length p.rest)

-- An IPv4 packet: version 4 and the header length share a byte; more-fragments and the fragment
-- offset are zero; protocol 17 is UDP.
abbrev pub ipv4_bytes : Parts → Fields → List ℕ
ipv4_bytes p d =
    ((4 * 16 + p.header_words) ∷ p.type_of_service ∷ []) ++ big_bytes 2 (total_length_of p d)
    ++ big_bytes 2 p.identification ++ (64 * p.flags ∷ 0 ∷ [])
    ++ (p.time_to_live ∷ 17 ∷ []) ++ big_bytes 2 p.header_checksum
    ++ (d.source ++ (d.destination ++ (p.options ++ (udp_bytes p d ++ p.rest))))

-- a tag is the type 0x8100 and two bytes of control information
abbrev pub tag_bytes : Option ℕ → List ℕ
tag_bytes None = []
tag_bytes (Some control) = (0x81 ∷ 0x00 ∷ []) ++ big_bytes 2 control

-- the frame: 0x0800 is the type of IPv4
abbrev pub frame_bytes : Parts → Fields → List ℕ
frame_bytes p d =
    p.ethernet_addresses
    ++ (tag_bytes p.tag ++ ((0x08 ∷ 0x00 ∷ []) ++ (ipv4_bytes p d ++ p.padding)))

-- each part has the size that its place in the headers allows
pub record Fit (p : Parts) (d : Fields) : Type 0 where
  pub ethernet_addresses : length p.ethernet_addresses ≡ 12
  pub header : 4 * p.header_words ≡ 20 + length p.options
  pub header_words : p.header_words < 16
  pub flags : p.flags < 4
  pub total_length : total_length_of p d < 2 ^ 16
  pub source : length d.source ≡ 4
  pub destination : length d.destination ≡ 4
  pub source_port : d.source_port < 2 ^ 16
  pub destination_port : d.destination_port < 2 ^ 16

-- the frame is such parts, joined, around a datagram with these fields
pub record HoldsDatagram (frame : List ℕ) (d : Fields) : Type 0 where
  pub parts : Parts
  pub fit : Fit parts d
  pub joined : frame ≡ frame_bytes parts d

-- ---- any frame

-- the number in the two bytes from a place, the high byte first
unfoldable pub word : List ℕ → ℕ → ℕ
word bytes place = big_number 2 (drop place bytes)

-- where the Ethernet header ends: after the type, which a tag moves by four bytes
abbrev pub header_end : List ℕ → ℕ
header_end frame = if word frame 12 == 0x8100 then 18 else 14

-- the first reason to skip a frame by its Ethernet header: its type has to be that of IPv4
unfoldable pub link_skip : List ℕ → Option Skip
link_skip frame =
    if nat_lt (length frame) 14 then Some Short else
    if nat_lt (length frame) (header_end frame) then Some Short else
    if word frame (header_end frame - 2) == 0x0800 then None else Some OtherType

-- the IPv4 packet, with the padding of the frame
unfoldable pub packet_of : List ℕ → List ℕ
packet_of frame = drop (header_end frame) frame

-- the length of an IPv4 header in bytes, from the low four bits of its first byte
abbrev pub header_length : List ℕ → ℕ
header_length packet = 4 * (slice_index packet 0 % 16)

-- the first reason to skip a packet by its IPv4 header; the low 14 bits of the word at 6 are the
-- more-fragments flag (0x2000) and the fragment offset (0x1fff)
unfoldable pub packet_skip : List ℕ → Option Skip
packet_skip packet =
    if nat_lt (length packet) 20 then Some Short else
    if not (slice_index packet 0 / 16 == 4) then Some IpHeader else
    if nat_lt (header_length packet) 20 then Some IpHeader else
    if nat_lt (word packet 2) (header_length packet) then Some IpHeader else
    if nat_lt (length packet) (word packet 2) then Some Short else
    if nat_lt 0 (word packet 6 % 2 ^ 14) then Some Fragment else
    if slice_index packet 9 == 17 then None else Some OtherProtocol

-- what stands after the IPv4 header, up to the total length
unfoldable pub segment_of : List ℕ → List ℕ
segment_of packet = slice_range packet (header_length packet) (word packet 2)

-- the reason to skip what stands after the IPv4 header: the UDP length has to lie within it
unfoldable pub segment_skip : List ℕ → Option Skip
segment_skip segment =
    if nat_lt (length segment) 8 then Some UdpLength else
    if nat_lt (word segment 4) 8 then Some UdpLength else
    if nat_lt (length segment) (word segment 4) then Some UdpLength else None

-- the first reason to skip a frame, as its headers are read from the outside in
unfoldable pub skip_of : List ℕ → Option Skip
skip_of frame =
    option_or (link_skip frame)
    (option_or (packet_skip (packet_of frame)) (segment_skip (segment_of (packet_of frame))))

-- the fields by their places
unfoldable pub fields_at : List ℕ → List ℕ → Fields
fields_at packet segment = record {
  source = slice_range packet 12 16;
  destination = slice_range packet 16 20;
  source_port = word segment 0;
  destination_port = word segment 2;
  payload = slice_range segment 8 (word segment 4);
}

abbrev pub unless_skipped : Option Skip → Fields → Result Fields Skip
unless_skipped None d = Ok d
unless_skipped (Some s) d = Err s

-- what a frame gives
unfoldable pub datagram_of : List ℕ → Result Fields Skip
datagram_of frame =
    unless_skipped (skip_of frame) (fields_at (packet_of frame) (segment_of (packet_of frame)))
