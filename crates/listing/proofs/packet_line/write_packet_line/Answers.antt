use Rattle.listing.specs.PacketLine.{packet_line}
use Rattle.listing.proofs.TwentyFields.{joined_by_blanks, spaced-append}
use Rattle.listing.proofs.packet_line.write_packet_line.Goals as goal

pub returns-clause-text : goal.returns-clause-text
unfolding packet_line
returns-clause-text c =
    rw (
      c.put_record.ensures.text,
      c.put_endpoints.ensures.text,
      c.put_mode.ensures.text,
      c.put_clock.ensures.text,
      c.put_root.ensures.text,
      c.put_stamps.ensures.text,
      c.put_ticks.ensures.text,
      c.put_byte.ensures.text,
      c.clear.ensures,
    ) (simp (joined_by_blanks, spaced-append))
