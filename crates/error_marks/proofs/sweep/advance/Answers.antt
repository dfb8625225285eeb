use Rattle.error_marks.proofs.Common.{refl, arith, AllWithin-more, Precedes}
use Rattle.error_marks.proofs.Passage.{at_any, next_is_highest, highest_stays}
use Rattle.error_marks.proofs.sweep.advance.Goals as goal
use Rattle.error_marks.proofs.sweep.advance.Goals.{then-is_below, else-is_below}

pub loop-passed-preserved : goal.loop-passed-preserved
loop-passed-preserved c =
    let i = c.loop-passed.passed in
    let lows = c.args.lows.now in
    let precedes = c.if-not-precedes.ensures in
    record {
      within = omega arith;
      precede = AllWithin-more (λ low. Precedes low c.args.high) lows 0 i
          c.loop-passed.invariant.precede
          (at_any (λ low. Precedes low c.args.high) lows i _ (omega arith) (precedes.0 refl));
      highest = elim c.if-is_below.branch [
        | then-is_below w ↦ let below = w.if-is_below.ensures in
            rw w.highest-is (next_is_highest c.args.direction c.args.drift_ppb lows i c.loop-passed.highest
            c.loop-passed.invariant.highest _ (omega arith) (below.0 refl))
        | else-is_below w ↦ let below = w.if-is_below.ensures in
            rw w.highest-is (highest_stays c.args.direction c.args.drift_ppb lows i c.loop-passed.highest
            c.loop-passed.invariant.highest _ (omega arith) (λ h. let not = below.1 h in cc))
      ];
    }
