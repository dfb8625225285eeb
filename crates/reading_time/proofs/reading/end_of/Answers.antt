use Rattle.reading_time.proofs.Common.{sym}
use Rattle.reading_time.proofs.Ticks.{end_of-parts}
use Rattle.reading_time.proofs.reading.end_of.Goals as goal

pub returns : goal.returns
returns c =
    rw (c.number_of.ensures.value, c.parts_of-parts.ensures.value) (sym (end_of-parts c.args.second c.args.digits.now))
