use Rattle.line_writer.proofs.Ends.{low_end, high_end}
use Rattle.line_writer.proofs.laws.shown_ranges_hold_the_range.Goals as goal

pub returns : goal.returns
returns c = record { low = low_end; high = high_end }
