-- What a packet's header is made of.
use Rattle.std.proofs.Common.{ℕ, ◌-◌, ◌<◌, List, drop, Bool, true, false, Option, Some, None, Ok, Err}
use Rattle.std.specs.Prelude.{IfSome, slice_range, if◌then◌else◌}
use Rattle.std.proofs.lemmas.List.Elements.{All-take, All-drop}
use Rattle.frame_reader.specs.declared.skip.Skip.{Skip}
use Rattle.frame_reader.specs.Frame.{Fields, datagram_of, fields_at, header_end, header_length, packet_of as ip_packet, segment_of, skip_of, unless_skipped, word}
use Rattle.byte_stream.specs.Bytes.{IsBytes}
use Rattle.ntp_packet.specs.Header.{header_of}
use Rattle.ntp_packet.specs.Packet.{Packet, packet_of, is_ntp}

range_bytes : (xs : List ℕ) (a b : ℕ) → IsBytes xs → IsBytes (slice_range xs a b)
range_bytes xs a b h = All-take (λ (x : ℕ). x < 256) (b - a) (drop a xs) (All-drop (λ (x : ℕ). x < 256) a xs h)

payload_bytes : (frame : List ℕ) → IsBytes frame → IsBytes (fields_at (ip_packet frame) (segment_of
    (ip_packet frame))).payload
unfolding fields_at segment_of ip_packet
payload_bytes frame h =
    let packet = drop (header_end frame) frame in
    let segment = slice_range packet (header_length packet) (word packet 2) in
    range_bytes segment 8 (word segment 4) (range_bytes packet (header_length packet) (word packet 2) (All-drop (λ
    (x : ℕ). x < 256) (header_end frame) frame h))

-- the packet that a datagram is, if it is one
abbrev ntp_of : Fields → Option Packet
ntp_of d = if is_ntp d then Some (record { datagram = d; header = header_of d.payload }) else None

from_fields : (b : Bool) (d : Fields) → IsBytes d.payload →
    IfSome (if b then Some (record {
      datagram = d;
      header =
          header_of d.payload;
    }) else None) (λ (p : Packet). IsBytes p.header)
from_fields true d h = All-take (λ (x : ℕ). x < 256) 48 d.payload h
from_fields false d h = tt

from_skip : (skip : Option Skip) (d : Fields) → IsBytes d.payload →
    IfSome (elim (unless_skipped skip d) [ Ok e ↦ ntp_of e | Err other ↦ None ]) (λ (p : Packet). IsBytes p.header)
from_skip None d h = from_fields (is_ntp d) d h
from_skip (Some skip) d h = tt

pub packet_header_bytes : (frame : List ℕ) → IsBytes frame → IfSome (packet_of frame) (λ p. IsBytes p.header)
unfolding packet_of datagram_of
packet_header_bytes frame h = from_skip (skip_of frame) (fields_at (ip_packet frame) (segment_of
    (ip_packet frame))) (payload_bytes frame h)
