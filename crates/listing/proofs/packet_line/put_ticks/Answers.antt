use Rattle.listing.proofs.Common.{tick_fields, arith}
use Rattle.std.proofs.lemmas.Int.{to_z-of_z}
use Rattle.listing.proofs.packet_line.put_ticks.Goals as goal

pub returns-clause-text : goal.returns-clause-text
unfolding tick_fields
returns-clause-text c = grind (arith, to_z-of_z)
