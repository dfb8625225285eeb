use Rattle.reading_time.proofs.Common.{sym}
use Rattle.reading_time.proofs.Ticks.{begin_of-parts}
use Rattle.reading_time.proofs.reading.begin_of.Goals as goal

pub returns : goal.returns
returns c =
    rw (c.number_of.ensures.value, c.parts_of.ensures.value) (sym (begin_of-parts c.args.second c.args.digits.now))
