-- What a frame gives is what it holds.
use Rattle.std.proofs.Common.{◌≡◌, ℕ, ◌⊎◌, ◌↔◌, List, Option, Some, None, Ok, Err, refl, sym, ◌∙◌, inl, inr, is_some, true, subst}
use Rattle.std.specs.Option.{option_or}
use Rattle.std.specs.Prelude.{IsSome}
use Rattle.frame_reader.specs.declared.skip.Skip.{Skip}
use Rattle.frame_reader.specs.Frame.{Fields, HoldsDatagram, link_skip, packet_of, packet_skip, segment_of, segment_skip, skip_of, fields_at, unless_skipped, datagram_of}
use Rattle.byte_stream.specs.Bytes.{IsBytes, byte_at-lt}
use Rattle.frame_reader.proofs.HeaderTests.{option_or-none, link_passed, link_passes, packet_passed, packet_passes, segment_passed, segment_passes}
use Rattle.frame_reader.proofs.Soundness.{parted}
use Rattle.frame_reader.proofs.Completeness.{joined}

-- the fields at their places, whatever the tests say
abbrev at_places : List ℕ → Fields
at_places frame = fields_at (packet_of frame) (segment_of (packet_of frame))

holds-unskipped : (frame : List ℕ) → IsBytes frame → skip_of frame ≡ None → HoldsDatagram frame (at_places frame)
unfolding skip_of
holds-unskipped frame bytes e =
    let link = option_or-none (link_skip frame)
    (option_or (packet_skip (packet_of frame)) (segment_skip (segment_of (packet_of frame)))) e in
    let inner = option_or-none (packet_skip (packet_of frame)) (segment_skip (segment_of (packet_of frame))) link.1 in
    parted frame (byte_at-lt frame bytes) (link_passed frame link.0)
    (packet_passed (packet_of frame) inner.0) (segment_passed (segment_of (packet_of frame)) inner.1)

unskipped : (frame : List ℕ) (d : Fields) → HoldsDatagram frame d → skip_of frame ≡ None
unfolding skip_of
unskipped frame d h =
    let j = joined frame d h in
    rw (
      link_passes frame j.link,
      packet_passes (packet_of frame) j.packet,
      segment_passes
          (segment_of (packet_of frame)) j.segment,
    ) refl

skipped_or_not : (o : Option Skip) → ((s : Skip) × (o ≡ Some s)) ⊎ (o ≡ None)
skipped_or_not (Some s) = inl (s, refl)
skipped_or_not None = inr refl

ok_parts : (o : Option Skip) (x d : Fields) → unless_skipped o x ≡ Ok d → (o ≡ None) × (x ≡ d)
ok_parts None x d e = (refl, cc)
ok_parts (Some s) x d e = absurd cc

err_parts : (o : Option Skip) (x : Fields) (s : Skip) → unless_skipped o x ≡ Err s → o ≡ Some s
err_parts None x s e = absurd cc
err_parts (Some t) x s e = cc

pub holds-given : (frame : List ℕ) (d : Fields) → IsBytes frame → datagram_of frame ≡ Ok d → HoldsDatagram frame d
unfolding datagram_of
holds-given frame d bytes e =
    let parts = ok_parts (skip_of frame) (at_places frame) d e in
    subst (λ x. HoldsDatagram frame x) parts.1 (holds-unskipped frame bytes parts.0)

pub given-held : (frame : List ℕ) (d : Fields) → HoldsDatagram frame d → datagram_of frame ≡ Ok d
unfolding datagram_of
given-held frame d h = rw (unskipped frame d h, (joined frame d h).fields) refl

pub given_exactly : (frame : List ℕ) (d : Fields) → IsBytes frame → (datagram_of frame ≡ Ok d) ↔ HoldsDatagram frame d
given_exactly frame d bytes = (holds-given frame d bytes, given-held frame d)

pub skip-given : (frame : List ℕ) (s : Skip) → datagram_of frame ≡ Err s → skip_of frame ≡ Some s
unfolding datagram_of
skip-given frame s e = err_parts (skip_of frame) (at_places frame) s e

given-skip : (frame : List ℕ) (s : Skip) → skip_of frame ≡ Some s → datagram_of frame ≡ Err s
unfolding datagram_of
given-skip frame s e = rw e refl

pub skipped_exactly : (frame : List ℕ) (s : Skip) → (datagram_of frame ≡ Err s) ↔ (skip_of frame ≡ Some s)
skipped_exactly frame s = (skip-given frame s, given-skip frame s)

pub one_datagram : (frame : List ℕ) (d e : Fields) → HoldsDatagram frame d → HoldsDatagram frame e → d ≡ e
one_datagram frame d e h k = sym (joined frame d h).fields ∙ (joined frame e k).fields

none_held : (frame : List ℕ) → IsSome (skip_of frame) → (d : Fields) → HoldsDatagram frame d → ⊥
none_held frame some d h =
    let e = unskipped frame d h in
    let impossible : is_some (skip_of frame) ≡ true = some in
    absurd cc

some_skip : (frame : List ℕ) → IsBytes frame → ((d : Fields) → HoldsDatagram frame d → ⊥) → IsSome (skip_of frame)
some_skip frame bytes none = elim (skipped_or_not (skip_of frame)) [
  | inl (s, e) ↦ rw e refl
  | inr e ↦ absurd (none (at_places frame) (holds-unskipped frame bytes e))
]

pub skipped_without : (frame : List ℕ) → IsBytes frame → IsSome (skip_of frame)
    ↔ ((d : Fields) → ¬ HoldsDatagram frame d)
skipped_without frame bytes = (none_held frame, some_skip frame bytes)
