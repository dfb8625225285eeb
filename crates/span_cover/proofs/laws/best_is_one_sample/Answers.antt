use Rattle.span_cover.proofs.BestSample.{IsFirstBest-one}
use Rattle.span_cover.proofs.laws.best_is_one_sample.Goals as goal

pub returns : goal.returns
returns c = IsFirstBest-one
