use Rattle.error_marks.proofs.Common.{refl, arith, AllWithin-more, AreCompatible}
use Rattle.error_marks.proofs.Passage.{at_any}
use Rattle.error_marks.proofs.conflict.first_against.Goals as goal

pub loop-j-preserved : goal.loop-j-preserved
loop-j-preserved c =
    let highs = c.args.highs.now in
    let fits = c.if-not-are_compatible.ensures in
    AllWithin-more (λ high. AreCompatible c.args.drift_ppb c.args.low high) highs 0 c.loop-j.j c.loop-j.invariant
    (at_any (λ high. AreCompatible c.args.drift_ppb c.args.low high) highs c.loop-j.j _ (omega arith) (fits.0 refl))
