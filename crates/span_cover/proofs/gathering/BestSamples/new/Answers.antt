use Rattle.span_cover.proofs.Common.{refl, arith, ints}
use Rattle.span_cover.proofs.GatheringSteps.{none_taken}
use Rattle.span_cover.proofs.gathering.BestSamples.new.Goals as goal

pub returns : goal.returns
returns c =
    none_taken c.args.p c.args.q c.args.drift_ppb _ (omega (arith, ints)) (omega (arith, ints)) refl refl
