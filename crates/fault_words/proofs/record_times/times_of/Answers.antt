use Rattle.std.proofs.Common.{arith}
use Rattle.fault_words.proofs.record_times.times_of.Goals as goal

pub next_record-requires : goal.next_record-requires
next_record-requires g c = omega (arith, c.loop-call.invariant.0, c.requires.room)
