-- What a capture's bytes say, as a relation: frames, and when each was captured.
use Rattle.std.specs.Prelude.{◌≡◌, ℕ, ◌<◌, ◌≤◌, ◌^◌, All, List, ◌++◌, length}
use Rattle.audit.specs.Common.{flat_map, Unit as TimeUnit, per_second, Endian, Record, magic_of, spelled}

-- a captured frame: when, as a second from 1970-01-01T00:00:00Z on and the part of it in units; how
-- many bytes it had on the wire, which is ignored; and the bytes that were captured
pub record CapturedFrame : Type 0 where
  pub seconds : ℕ
  pub part : ℕ
  pub wire_length : ℕ
  pub bytes : List ℕ

-- the numbers of its record are in range
pub record IsLawfulFrame (unit : TimeUnit) (frame : CapturedFrame) : Type 0 where
  pub seconds : frame.seconds < 2 ^ 32
  pub part : frame.part < per_second unit
  pub wire_length : frame.wire_length < 2 ^ 32
  pub captured_length : length frame.bytes ≤ 262144

-- its record: four numbers of four bytes each, and the frame
abbrev pub record_bytes : Endian → CapturedFrame → List ℕ
record_bytes order frame =
    spelled order 4 frame.seconds ++ spelled order 4 frame.part
    ++ spelled order 4 (length frame.bytes) ++ spelled order 4 frame.wire_length ++ frame.bytes

-- The bytes are a classic capture of these frames (pcap-savefile(5)): a header of version 2.4 with
-- twelve bytes that play no part and link type 1, Ethernet, and then a record for each frame.
pub record IsCaptureOf (bytes : List ℕ) (order : Endian) (unit : TimeUnit)
    (frames : List CapturedFrame) : Type 0 where
  pub ignored : List ℕ
  pub twelve_ignored : length ignored ≡ 12
  pub in_range : All (IsLawfulFrame unit) frames
  pub few : length frames ≤ 4000000
  pub joined : bytes ≡ spelled order 4 (magic_of unit) ++ spelled order 2 2 ++ spelled order 2 4
      ++ ignored ++ spelled order 4 1 ++ flat_map (record_bytes order) frames

-- what a record says
abbrev pub frame_of : Record → CapturedFrame
frame_of r = record {
  seconds = r.head.sec;
  part = r.head.sub;
  wire_length = r.head.original;
  bytes = r.bytes;
}
