use Rattle.feasibility.proofs.Converse.{possible, keeps_low, keeps_high}
use Rattle.feasibility.proofs.laws.true_exchanges_keep_their_marks.Goals as goal

pub returns : goal.returns
returns c = record {
  possible = λ claim xs course k x lawful fits at true'.
      possible claim xs course k x at fits true' lawful.drift_in_range;
  low = λ claim xs course k x fits at true'. keeps_low claim xs course k x at fits true';
  high = λ claim xs course k x fits at true'. keeps_high claim xs course k x at fits true';
}
