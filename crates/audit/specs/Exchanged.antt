-- An exchange of a capture, as a relation on its frames (RFC 5905, section 8).
--
-- A reply of a server that is usable, and the one and only request of the whole capture that it
-- names by server, port and timestamp. T1 and T4 are the windows of the times at which the two were
-- captured, T2 and T3 the reply's timestamps.
use Rattle.std.specs.Prelude.{◌≡◌, ◌≢◌, ℕ, ◌+◌, ◌*◌, ◌<◌, ◌≤◌, ℤ, pos, ◌≤ℤ◌, ◌↔◌, ◌⊎◌, List, ◌++◌, length, AllPairs, Some, slice_get}
use Rattle.audit.specs.Common.{HoldsDatagram, IsBytes, IsFloor, IsCeiling, IsUnfolded, per_second, ticks_per_second, Unit as TimeUnit, version_of, leap_of, stratum_of, precision_of, precision_ticks_of, root_delay_of, root_dispersion_of, origin_of, receive_of, transmit_of, ntp_port, ClaimData, Exchange, IsReplyOf, IsRequestTo, Packet, ceiling_of, floor_of, packet_of, replying_server, requested_server, unfolded}
use Rattle.audit.specs.Captured.{CapturedFrame}

-- The frame holds an NTP packet: a datagram from or to its port, with a payload that begins with
-- the header, which has 48 bytes (RFC 5905, section 7.3). There may be more after it.
pub record HoldsPacket (frame : List ℕ) (p : Packet) : Type 0 where
  pub rest : List ℕ
  pub datagram : HoldsDatagram frame p.datagram
  pub port : (p.datagram.source_port ≡ ntp_port) ⊎ (p.datagram.destination_port ≡ ntp_port)
  pub payload : p.datagram.payload ≡ p.header ++ rest
  pub whole : length p.header ≡ 48

-- The frame holds a request to this server, and the reply names it: it is from the port to which
-- the reply goes, and its transmit timestamp is the reply's origin timestamp.
pub record HoldsRequest (claim : ClaimData) (server : ℕ) (reply : Packet) (frame : List ℕ) :
    Type 0 where
  pub request : Packet
  pub held : HoldsPacket frame request
  pub to_server : IsRequestTo claim server request
  pub port : request.datagram.source_port ≡ reply.datagram.destination_port
  pub stamp : transmit_of request.header ≡ origin_of reply.header

-- a reply's header says that the server is synchronized, and leaves no timestamp unknown
pub record IsUsable (header : List ℕ) : Type 0 where
  pub version : version_of header ≡ 4
  pub synchronized : leap_of header ≢ 3
  pub least_stratum : 1 ≤ stratum_of header
  pub greatest_stratum : stratum_of header ≤ 15
  pub precision : precision_of header ≤ℤ pos 16
  pub origin : origin_of header ≢ 0
  pub receive : receive_of header ≢ 0
  pub transmit : transmit_of header ≢ 0

-- the window of a frame's time: the least range of whole ticks that holds it and the next unit
pub record IsWindowOf (unit : TimeUnit) (frame : CapturedFrame) (low high : ℤ) : Type 0 where
  pub low_tick : ℕ
  pub high_tick : ℕ
  pub low_is : low ≡ pos low_tick
  pub high_is : high ≡ pos high_tick
  pub floor : IsFloor ((frame.seconds * per_second unit + frame.part) * ticks_per_second)
      (per_second unit) low_tick
  pub ceiling : IsCeiling ((frame.seconds * per_second unit + frame.part + 1) * ticks_per_second)
      (per_second unit) high_tick

-- an exchange of these frames
pub record IsExchangeIn (claim : ClaimData) (unit : TimeUnit) (frames : List CapturedFrame)
    (x : Exchange) : Type 0 where
  pub request : CapturedFrame
  pub reply : CapturedFrame
  pub request_stands : slice_get frames x.request ≡ Some request
  pub reply_stands : slice_get frames x.reply ≡ Some reply
  -- the reply's packet is one of the server to the client, and usable
  pub packet : Packet
  pub answers : HoldsPacket reply.bytes packet
  pub of_server : IsReplyOf claim x.server packet
  pub usable : IsUsable packet.header
  -- the request is the one that it names, and no other frame holds such a one
  pub asks : HoldsRequest claim x.server packet request.bytes
  pub only : (k : ℕ) (frame : CapturedFrame) → slice_get frames k ≡ Some frame
      → HoldsRequest claim x.server packet frame.bytes → k ≡ x.request
  -- the four times, and the root distance that the reply announces: half the root delay, the root
  -- dispersion and the precision (RFC 5905, section 11.2)
  pub t1 : IsWindowOf unit request x.t1_low x.t1_high
  pub t2 : IsUnfolded (receive_of packet.header) x.t1_low x.t2
  pub t3 : IsUnfolded (transmit_of packet.header) x.t1_low x.t3
  pub t4 : IsWindowOf unit reply x.t4_low x.t4_high
  pub distance : x.distance ≡ pos (root_delay_of packet.header * 32768
      + root_dispersion_of packet.header * 65536 + precision_ticks_of (precision_of packet.header))

-- the laws of the layers below by which exchanges are found in frames
pub record FrameLaws : Type 0 where
  pub packet : (frame : List ℕ) (p : Packet) → IsBytes frame
      → (packet_of frame ≡ Some p) ↔ HoldsPacket frame p
  pub request : (claim : ClaimData) (packet : Packet) (server : ℕ)
      → AllPairs (λ a b. a ≢ b) claim.servers
      → (requested_server claim packet ≡ Some server) ↔ IsRequestTo claim server packet
  pub reply : (claim : ClaimData) (packet : Packet) (server : ℕ)
      → AllPairs (λ a b. a ≢ b) claim.servers
      → (replying_server claim packet ≡ Some server) ↔ IsReplyOf claim server packet
  pub down : (n d : ℕ) → 0 < d → IsFloor n d (floor_of n d)
  pub up : (n d : ℕ) → 0 < d → IsCeiling n d (ceiling_of n d)
  pub stamp : (stamp : ℕ) (near : ℤ) → IsUnfolded stamp near (unfolded stamp near)

-- two exchanges agree in all that these frames say of them; the leap indicator, the stratum and the
-- reference are left open
pub record SameExchange (x y : Exchange) : Type 0 where
  pub server : x.server ≡ y.server
  pub request : x.request ≡ y.request
  pub reply : x.reply ≡ y.reply
  pub t1_low : x.t1_low ≡ y.t1_low
  pub t1_high : x.t1_high ≡ y.t1_high
  pub t4_low : x.t4_low ≡ y.t4_low
  pub t4_high : x.t4_high ≡ y.t4_high
  pub t2 : x.t2 ≡ y.t2
  pub t3 : x.t3 ≡ y.t3
  pub distance : x.distance ≡ y.distance

-- one of these exchanges agrees with it in all that
pub record IsAmong (xs : List Exchange) (x : Exchange) : Type 0 where
  pub place : ℕ
  pub found : Exchange
  pub stands : slice_get xs place ≡ Some found
  pub same : SameExchange x found
