use Rattle.sweep.proofs.Common.{◌≡◌, ℕ, ◌<◌, length, Some, slice_get}
use Rattle.sweep.proofs.pieces.pairs_of.Given as goal

abbrev pub invariant-loop-k : goal.invariant-loop-k
invariant-loop-k l = record {
  as_many : length l.pairs.items ≡ l.k;
  each : (k low high : ℕ) → k < l.k → slice_get l.lows k ≡ Some low → slice_get l.highs k ≡ Some high →
      slice_get l.pairs.items k ≡ Some (low, high);
}
