-- The highest of the first arrivals, and how high the others may be.
use Rattle.std.specs.Prelude.{◌≡◌, ℕ, ◌<◌, ◌⊎◌, List, Some, slice_get}
use Rattle.sweep.specs.Block.{IsLimitOf}
use Rattle.sweep.specs.declared.lead.Lead.{Lead}
use Rattle.sweep.specs.declared.queue.Arrival.{Arrival}

pub record IsLead (queue : List Arrival) (next : ℕ) (lead : Lead) : Type 0 where
  pub above : (turn : ℕ) (arrival : Arrival) → turn < next → slice_get queue turn ≡ Some arrival →
      arrival.height < lead.limit
  pub of_one : (lead.limit ≡ 0) ⊎ IsLimitOf queue next (λ index. index ≡ lead.index) lead.limit
  pub others : (turn : ℕ) (arrival : Arrival) → turn < next → slice_get queue turn ≡ Some arrival →
      ¬ (arrival.index ≡ lead.index) → arrival.height < lead.second
