use Rattle.error_marks.proofs.Common.{ℕ, ◌≤◌, ◌<◌, length, get_or, All, AllWithin, Precedes, KeepsBelow, IsHighest, Mark}
use Rattle.error_marks.proofs.sweep.keep_below.Given as goal

abbrev pub invariant-loop-high : goal.invariant-loop-high
invariant-loop-high l = record {
  within : l.passage.passed ≤ length l.lows;
  precede : (j : ℕ) (d : Mark) → l.high-index ≤ j → j < length l.highs →
      AllWithin (λ low. Precedes low (get_or l.highs j d)) l.lows 0 l.passage.passed;
  highest : IsHighest l.direction l.drift_ppb l.lows l.passage;
  so_far : AllWithin (λ high. All (λ low. KeepsBelow l.direction l.drift_ppb low high) l.lows) l.highs 0 l.high-index;
}
