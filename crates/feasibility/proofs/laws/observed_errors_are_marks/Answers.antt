use Rattle.feasibility.proofs.Converse.{observed_low, observed_high}
use Rattle.feasibility.proofs.laws.observed_errors_are_marks.Goals as goal

pub returns : goal.returns
returns c = record { low = observed_low; high = observed_high }
