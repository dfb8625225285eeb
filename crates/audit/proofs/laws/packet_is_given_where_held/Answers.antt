use Rattle.audit.proofs.PacketParts.{packet_held}
use Rattle.audit.proofs.laws.packet_is_given_where_held.Goals as goal

pub returns : goal.returns
returns c frame p bytes = packet_held c.given_where_held.ensures frame bytes p
