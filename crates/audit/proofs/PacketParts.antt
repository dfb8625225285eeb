-- packets and headers
use Rattle.audit.proofs.Common.{◌≡◌, ℕ, ◌≤◌, true, ◌⊎◌, inl, inr, ◌↔◌, List, length, drop, Some, None, Ok, sym, arith, nat_tests, ints, take-append-drop, length-take-le, length-append, take-append_seam, IsBytes, header_of, Packet, packet_of, is_ntp, ntp_port, refusal_of, by_test, HoldsPacket, IsUsable}
use Rattle.frame_reader.specs.Frame.{Fields, datagram_of, HoldsDatagram}

-- ---- packets

ntp_port_of : (d : Fields) → is_ntp d ≡ true
    → ((d.source_port ≡ ntp_port) ⊎ (d.destination_port ≡ ntp_port)) × (48 ≤ length d.payload)
ntp_port_of d h = grind (arith, by_test, ntp_port, inl, inr)

module _ (law : (frame : List ℕ) (d : Fields) → IsBytes frame → (datagram_of frame ≡ Ok d) ↔ HoldsDatagram frame d)
    (frame : List ℕ) (bytes : IsBytes frame) (p : Packet) where
  parts_of : packet_of frame ≡ Some p → (datagram_of frame ≡ Ok p.datagram) × (is_ntp p.datagram ≡ true)
      × (header_of p.datagram.payload ≡ p.header)
  unfolding packet_of
  parts_of e = grind (arith, ints, nat_tests, by_test, datagram_of frame)

  held_by : packet_of frame ≡ Some p → HoldsPacket frame p
  held_by e =
      let (datagram, ntp, header) = parts_of e in
      let facts = ntp_port_of p.datagram ntp in
      record {
        rest = drop 48 p.datagram.payload;
        datagram = (law frame p.datagram bytes).0 datagram;
        port = facts.0;
        payload = rw (← header) (sym (take-append-drop 48 p.datagram.payload));
        whole = rw (← header) (length-take-le 48 p.datagram.payload facts.1);
      }

  given_by : HoldsPacket frame p → packet_of frame ≡ Some p
  unfolding packet_of
  given_by held =
      grind (
        arith,
        by_test,
        ntp_port,
        (law frame p.datagram bytes).1 held.datagram,
        take-append_seam p.header held.rest,
        length-append p.header held.rest,
      )

  pub packet_held : (packet_of frame ≡ Some p) ↔ HoldsPacket frame p
  packet_held = (held_by, given_by)

-- ---- headers

pub usable : (header : List ℕ) → (refusal_of header ≡ None) ↔ IsUsable header
unfolding refusal_of
usable header = grind (arith, ints, nat_tests)
