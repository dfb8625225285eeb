use Rattle.sweep.proofs.Common.{◌≡◌, ◌-◌, ℕ, ◌<◌, ◌≤◌, length, Some, slice_get, IsLead, Arrival}
use Rattle.sweep.proofs.lead.lead_upto.Given as goal

abbrev pub invariant-loop-next : goal.invariant-loop-next
invariant-loop-next l = record {
  no_fewer : l.fn.next ≤ l.next;
  within : l.next ≤ length l.queue;
  upto : (i : ℕ) (a : Arrival) → i < l.next → slice_get l.queue i ≡ Some a → a.at ≤ l.fn.place;
  leads : IsLead l.queue l.next l.lead;
}

abbrev pub decreases-loop-next : goal.decreases-loop-next
decreases-loop-next l = length l.queue - l.next
