use Rattle.std.proofs.Common.{rules, arith}
use Rattle.std.proofs.lemmas.Int.{ints}
use Rattle.ntp_packet.proofs.PrecisionTicks.{precision_ticks_of-greatest}
use Rattle.ntp_packet.proofs.header.NtpView.root_distance.Goals as goal

pub returns-clause-greatest : goal.returns-clause-greatest
returns-clause-greatest c =
    let ticks = precision_ticks_of-greatest c.precision-precision.result (omega (arith, ints)) in
    search rules
