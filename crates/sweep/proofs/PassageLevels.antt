-- The highest level that is reached over each stretch, and the first index that reaches it.
use Rattle.sweep.proofs.Common.{◌≡◌, ℕ, ◌+◌, ◌-◌, ◌*◌, ◌<◌, ◌≤◌, List, Option, Some, max, arith, sym, ◌∙◌, ⊎_elim, slice_get, cases_lt, mul-le-mul_right, div-one, IsRate, billion, IsReached, IsFirstBlock, AreUpto, IsLead, IsWantedBelow, Reaches, IsQueueOf, IsTopOf, IsEarlyAtLeast, AreEarlyTops, AreTopsOver, height_for, Lead, Wanted, Extreme, Arrival, Top, UnsignedStretch}
use Rattle.sweep.proofs.BlockLimits.{has_come}
use Rattle.sweep.proofs.TopOrder.{same_top}

module _ (ppb : ℕ) (extremes : List Extreme) (queue : List Arrival) (is_queue : IsQueueOf ppb extremes queue)
    (stretch : UnsignedStretch) (level index : ℕ) where
  reached_early : IsReached queue (stretch.begin + stretch.end) (height_for ppb stretch.end level) index →
      IsEarlyAtLeast ppb extremes stretch index level
  reached_early reached = grind (arith, is_queue.each reached.turn reached.arrival reached.stands)

  early_reached : IsEarlyAtLeast ppb extremes stretch index level →
      IsReached queue (stretch.begin + stretch.end) (height_for ppb stretch.end level) index
  early_reached is =
      let there = is_queue.all index is.extreme is.stands in
      grind (arith, there.2, there.3, is_queue.each there.0 there.1 there.2)

-- ---- the top of the arrivals that have come

module _ (ppb : ℕ) (slow : IsRate ppb) (queue : List Arrival) (stretch : UnsignedStretch) (n : ℕ) (lead : Lead)
    (upto : AreUpto queue (stretch.begin + stretch.end) n) (leads : IsLead queue n lead) where
  pub top_some : (wanted : Wanted) → IsWantedBelow ppb stretch.end lead.limit wanted → (index : ℕ) →
      IsFirstBlock queue (stretch.begin + stretch.end) wanted.height 1 index →
      IsTopOf (Reaches ppb queue stretch) (Some (record { level = wanted.level; index = index }))
  top_some wanted is index block =
      record {
        reached = rw (← is.height, ← (sym (div-one block.index) ∙ block.in_block)) block.reached;
        highest = λ other level reached.
            let come = has_come queue (stretch.begin + stretch.end) n _ upto other reached in
            let less = leads.above reached.turn reached.arrival come reached.stands in
            ⊎_elim
            (λ higher.
            let more : (wanted.level + 1) * (billion - ppb) ≤ level * (billion - ppb) =
            mul-le-mul_right (billion - ppb) (omega arith) in
            absurd (omega (arith, reached.no_lower)))
            (λ le. le)
            (cases_lt wanted.level level);
        first = λ other reached.
            let least = block.first other (rw (← is.height) at reached) in
            omega (arith, div-one other);
      }

-- ---- a lead

module _ (queue : List Arrival) (n : ℕ) (lead new : Lead) (leads : IsLead queue n lead) (a : Arrival)
    (here : slice_get queue n ≡ Some a)
    (higher : lead.limit < a.height + 1 → (new.limit ≡ a.height + 1) × (new.index ≡ a.index)
    × (new.second ≡ lead.limit))
    (no_higher : a.height + 1 ≤ lead.limit → (new.limit ≡ lead.limit) × (new.index ≡ lead.index)
    × (new.second ≡ max lead.second (a.height + 1))) where
  pub IsLead-more : IsLead queue (n + 1) new
  IsLead-more = grind arith

-- ---- the tops

pub AreEarlyTops-queue : (ppb : ℕ) (extremes : List Extreme) (queue : List Arrival) → IsQueueOf ppb extremes queue →
    (stretches : List UnsignedStretch) (tops : List (Option Top)) → AreTopsOver (Reaches ppb queue) stretches tops →
    AreEarlyTops ppb extremes stretches tops
AreEarlyTops-queue ppb extremes queue is_queue stretches tops are = record {
  as_many = are.as_many;
  each = λ k stretch top at at_top.
      same_top (Reaches ppb queue stretch) (IsEarlyAtLeast ppb extremes stretch) top
      (λ index level. reached_early ppb extremes queue is_queue stretch level index)
      (λ index level. early_reached ppb extremes queue is_queue stretch level index) (are.each k stretch top at at_top);
}
