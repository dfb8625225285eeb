use Rattle.reading_time.proofs.Ticks.{IsFloor-begin_of, IsCeiling-end_of}
use Rattle.reading_time.proofs.laws.ticks_hold_the_reading.Goals as goal

pub returns-clause-begin : goal.returns-clause-begin
returns-clause-begin c = IsFloor-begin_of

pub returns-clause-end : goal.returns-clause-end
returns-clause-end c = IsCeiling-end_of
