use Rattle.line_writer.proofs.Moments.{below, above}
use Rattle.line_writer.proofs.Readback.{second_back}
use Rattle.line_writer.proofs.laws.shown_times_read_back.Goals as goal

pub returns : goal.returns
returns c = record { second = second_back; below = below; above = above }
