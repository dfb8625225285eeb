use Rattle.std.proofs.Common.{arith}
use Rattle.fault_words.proofs.record_count.whole_records.Goals as goal

pub next_record-requires : goal.next_record-requires
next_record-requires g c = omega (arith, c.loop-count.invariant, c.requires.room)
