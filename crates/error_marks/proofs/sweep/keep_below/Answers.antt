use Rattle.error_marks.proofs.Common.{pos, get_or, refl, arith, All, AllWithin-more, IsBelow, KeepsBelow}
use Rattle.error_marks.proofs.Passage.{at_any, all_kept, precede_later}
use Rattle.error_marks.proofs.sweep.keep_below.Goals as goal
use Rattle.error_marks.proofs.sweep.keep_below.Goals.{else-passage-gt0-via-then-passage-gt0+else-not-is_below, else-passage-gt0-via-else-passage-gt0}

pub loop-high-preserved : goal.loop-high-preserved
loop-high-preserved c =
    let direction = c.args.direction in
    let ppb = c.args.drift_ppb in
    let lows = c.args.lows.now in
    let highs = c.args.highs.now in
    let j = c.loop-high.high-index in
    let high = get_or highs j record { place = pos 0; error = pos 0 } in
    let p = c.advance-passage.result in
    let has = c.advance-passage.ensures in
    record {
      within = has.within;
      precede = λ k d le within. precede_later direction ppb lows highs j _ p has c.requires.highs_in_order k d
          (omega arith) within;
      highest = has.highest;
      so_far = AllWithin-more (λ high. All (λ low. KeepsBelow direction ppb low high) lows) highs 0 j
          c.loop-high.invariant.so_far
          (at_any (λ high. All (λ low. KeepsBelow direction ppb low high) lows) highs j _ (omega arith)
          (all_kept direction ppb lows high p has c.requires.lows_in_order
          (λ some. elim c.else-passage-gt0.branch [
            | else-passage-gt0-via-then-passage-gt0+else-not-is_below w ↦ let below = w.if-not-is_below.ensures in
                let first = has.highest.passed some in
                at_any (λ low. IsBelow direction ppb low high) lows p.highest _ (omega (arith, has.within))
                (below.0 refl)
            | else-passage-gt0-via-else-passage-gt0 w ↦ absurd (omega (arith, w.if-passage-gt0.false))
          ])));
    }
