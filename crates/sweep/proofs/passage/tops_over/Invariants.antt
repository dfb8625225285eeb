use Rattle.sweep.proofs.Common.{◌≡◌, ◌+◌, ℕ, ◌<◌, ◌≤◌, length, Some, slice_get, AreBlocksOf, AreOver, IsLead, IsTopOf, Reaches, Arrival, UnsignedStretch}
use Rattle.sweep.proofs.passage.tops_over.Given as goal

abbrev pub invariant-loop-k : goal.invariant-loop-k
invariant-loop-k l = record {
  so_far : AreOver (λ stretch. IsTopOf (Reaches l.fn.drift_ppb l.queue stretch)) l.stretches l.k l.tops.items;
  within : l.next ≤ length l.queue;
  leads : IsLead l.queue l.next l.lead;
  upto : (i : ℕ) (a : Arrival) (j : ℕ) (stretch : UnsignedStretch) → i < l.next → slice_get l.queue i ≡ Some a →
      l.k ≤ j → slice_get l.stretches j ≡ Some stretch → a.at ≤ stretch.begin + stretch.end;
  taken : l.blocks.taken ≤ l.next;
  are : AreBlocksOf l.queue l.blocks;
}
