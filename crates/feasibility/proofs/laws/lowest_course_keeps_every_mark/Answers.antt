use Rattle.feasibility.proofs.LowestMarks.{keeps_first, keeps_others, keeps_high, first_is_met}
use Rattle.feasibility.proofs.laws.lowest_course_keeps_every_mark.Goals as goal

pub returns : goal.returns
returns c = record { first = keeps_first; others = keeps_others; high = keeps_high; met = first_is_met }
