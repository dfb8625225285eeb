-- The NTP packet that a frame holds.
--
-- An NTP packet is a datagram from or to UDP port 123 (RFC 5905, section 7.2) with a payload of at
-- least 48 bytes. The first 48 are its header. One definition serves every reader of captures.
use Rattle.std.specs.Prelude.{ℕ, ◌==◌, ◌||◌, ◌&&◌, List, length, nat_le, Bool, Option, Some, None, Ok, Err, if◌then◌else◌}
use Rattle.frame_reader.specs.Frame.{Fields, fields_of, datagram_of}
use Rattle.ntp_packet.specs.declared.kinds.Packet.{Packet as PacketView}
use Rattle.ntp_packet.specs.Header.{header_of}

-- what an NTP packet shows: the fields of its datagram, and its header
pub record Packet : Type 0 where
  pub datagram : Fields
  pub header : List ℕ

-- the port of NTP, at the server's end
abbrev pub ntp_port : ℕ
ntp_port = 123

-- the bytes of a header
abbrev pub header_bytes : ℕ
header_bytes = 48

-- whether a datagram is an NTP packet
abbrev pub is_ntp : Fields → Bool
is_ntp d =
    (d.source_port == ntp_port || d.destination_port == ntp_port)
    && nat_le header_bytes (length d.payload)

-- the NTP packet of a frame, if it holds one
unfoldable pub packet_of : List ℕ → Option Packet
packet_of frame =
    elim (datagram_of frame) [
      | Ok d ↦
          (if is_ntp d then Some (record { datagram = d; header = header_of d.payload }) else None)
      | Err skip ↦ None
    ]

-- a packet as it's read, without the place of its bytes in memory
abbrev pub packet_shown : PacketView → Packet
packet_shown p = record { datagram = fields_of p.datagram; header = p.header }
