use Rattle.sample_interval.proofs.LeastWidening.{widening-mono_rate}
use Rattle.sample_interval.proofs.laws.widening_grows.Goals as goal

pub returns-clause-rate : goal.returns-clause-rate
returns-clause-rate c = widening-mono_rate c.widening_is_one_number.ensures.is
