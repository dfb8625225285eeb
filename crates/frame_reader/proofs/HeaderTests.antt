-- A frame is kept if each of the tests on its headers passes, and otherwise skipped.
use Rattle.std.proofs.Common.{◌≡◌, ℕ, ◌-◌, ◌/◌, ◌%◌, ◌^◌, ◌≤◌, Bool, true, false, cond, eqb, ltb, List, length, get_or, Option, Some, None, refl, not}
use Rattle.std.specs.Option.{option_or}
use Rattle.std.proofs.lemmas.Bool.{ltb-false, eqb-true, eq-eqb, le-ltb, not-false}
use Rattle.frame_reader.specs.declared.skip.Skip.{Skip}
use Rattle.frame_reader.specs.declared.skip.Skip.TheVariants.{Short, OtherType, IpHeader, Fragment, OtherProtocol, UdpLength}
use Rattle.frame_reader.specs.Frame.{word, header_end, header_length, link_skip, packet_skip, segment_skip}

-- a row of tests that skips nothing: its first test fails, and so do the others
passed : (b : Bool) (s : Skip) (o : Option Skip) → cond b (Some s) o ≡ None → (b ≡ false) × (o ≡ None)
passed true s o e = absurd cc
passed false s o e = (refl, e)

-- the last test, which has to hold
held : (b : Bool) (s : Skip) → cond b None (Some s) ≡ None → b ≡ true
held true s e = refl
held false s e = absurd cc

pub option_or-none : (a b : Option Skip) → option_or a b ≡ None → (a ≡ None) × (b ≡ None)
option_or-none None b e = (refl, e)
option_or-none (Some s) b e = absurd cc

-- ---- Ethernet

pub record IsLinked (frame : List ℕ) : Type 0 where
  pub shortest : 14 ≤ length frame
  pub header : header_end frame ≤ length frame
  pub kind : word frame (header_end frame - 2) ≡ 0x0800

pub link_passed : (frame : List ℕ) → link_skip frame ≡ None → IsLinked frame
unfolding link_skip
link_passed frame e =
    let a = passed (ltb (length frame) 14) Short _ e in
    let b = passed (ltb (length frame) (header_end frame)) Short _ a.1 in
    let c = held (eqb (word frame (header_end frame - 2)) 0x0800) OtherType b.1 in
    record { shortest = ltb-false _ _ a.0; header = ltb-false _ _ b.0; kind = eqb-true _ _ c }

pub link_passes : (frame : List ℕ) → IsLinked frame → link_skip frame ≡ None
unfolding link_skip
link_passes frame l =
    rw (
      le-ltb (length frame) 14 l.shortest,
      le-ltb (length frame) (header_end frame) l.header,
      eq-eqb
          (word frame (header_end frame - 2)) 0x0800 l.kind,
    ) refl

-- ---- IPv4

pub record IsPacket (packet : List ℕ) : Type 0 where
  pub shortest : 20 ≤ length packet
  pub version : get_or packet 0 0 / 16 ≡ 4
  pub header : 20 ≤ header_length packet
  pub total : header_length packet ≤ word packet 2
  pub whole : word packet 2 ≤ length packet
  pub unfragmented : word packet 6 % 2 ^ 14 ≤ 0
  pub protocol : get_or packet 9 0 ≡ 17

pub packet_passed : (packet : List ℕ) → packet_skip packet ≡ None → IsPacket packet
unfolding packet_skip
packet_passed packet e =
    let a = passed (ltb (length packet) 20) Short _ e in
    let b = passed (not (eqb (get_or packet 0 0 / 16) 4)) IpHeader _ a.1 in
    let c = passed (ltb (header_length packet) 20) IpHeader _ b.1 in
    let d = passed (ltb (word packet 2) (header_length packet)) IpHeader _ c.1 in
    let f = passed (ltb (length packet) (word packet 2)) Short _ d.1 in
    let g = passed (ltb 0 (word packet 6 % 2 ^ 14)) Fragment _ f.1 in
    let h = held (eqb (get_or packet 9 0) 17) OtherProtocol g.1 in
    record {
      shortest = ltb-false _ _ a.0;
      version = eqb-true _ _ (not-false _ b.0);
      header = ltb-false _ _ c.0;
      total = ltb-false _ _ d.0;
      whole = ltb-false _ _ f.0;
      unfragmented = ltb-false _ _ g.0;
      protocol = eqb-true _ _ h;
    }

pub packet_passes : (packet : List ℕ) → IsPacket packet → packet_skip packet ≡ None
unfolding packet_skip
packet_passes packet p =
    rw (
      le-ltb (length packet) 20 p.shortest,
      eq-eqb (get_or packet 0 0 / 16) 4 p.version,
      le-ltb (header_length packet) 20 p.header,
      le-ltb (word packet 2) (header_length packet) p.total,
      le-ltb (length packet) (word packet 2) p.whole,
      le-ltb 0 (word packet 6 % 2 ^ 14) p.unfragmented,
      eq-eqb (get_or packet 9 0) 17 p.protocol,
    ) refl

-- ---- UDP

pub record IsSegment (segment : List ℕ) : Type 0 where
  pub shortest : 8 ≤ length segment
  pub header : 8 ≤ word segment 4
  pub whole : word segment 4 ≤ length segment

pub segment_passed : (segment : List ℕ) → segment_skip segment ≡ None → IsSegment segment
unfolding segment_skip
segment_passed segment e =
    let a = passed (ltb (length segment) 8) UdpLength _ e in
    let b = passed (ltb (word segment 4) 8) UdpLength _ a.1 in
    let c = passed (ltb (length segment) (word segment 4)) UdpLength _ b.1 in
    record { shortest = ltb-false _ _ a.0; header = ltb-false _ _ b.0; whole = ltb-false _ _ c.0 }

pub segment_passes : (segment : List ℕ) → IsSegment segment → segment_skip segment ≡ None
unfolding segment_skip
segment_passes segment s =
    rw (
      le-ltb (length segment) 8 s.shortest,
      le-ltb (word segment 4) 8 s.header,
      le-ltb (length segment)
          (word segment 4) s.whole,
    ) refl
