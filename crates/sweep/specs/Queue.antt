-- The extremes in the order in which they become early while the stretches go by.
use Rattle.std.specs.Prelude.{◌≡◌, ℕ, ◌+◌, ◌-◌, ◌<◌, ◌≤◌, ◌^◌, Bool, true, false, List, Some, slice_get, length}
use Rattle.sweep.specs.Top.{height}
use Rattle.sweep.specs.declared.extreme.Extreme.{Extreme}
use Rattle.sweep.specs.declared.queue.Arrival.{Arrival}

-- the arrival of an extreme
pub record IsArrivalOf (ppb : ℕ) (extremes : List Extreme) (arrival : Arrival) : Type 0 where
  pub extreme : Extreme
  pub stands : slice_get extremes arrival.index ≡ Some extreme
  pub at : arrival.at ≡ extreme.from + extreme.to
  pub height : arrival.height ≡ height ppb extreme

-- the same, of the extreme at this index, with a height of 110 bits
abbrev pub IsArrivalAt : ℕ → List Extreme → ℕ → Arrival → Type 0
IsArrivalAt ppb extremes index arrival =
    (arrival.index ≡ index) × IsArrivalOf ppb extremes arrival × (arrival.height < 2 ^ 110)

-- the index of the extreme whose turn it is: in their order, or backwards from the last one on
abbrev pub index_at : Bool → ℕ → ℕ → ℕ
index_at false count turn = turn
index_at true count turn = count - 1 - turn

-- the arrivals in the order of the extremes, or backwards
pub record AreArrivalsOf (ppb : ℕ) (backwards : Bool) (extremes : List Extreme)
    (arrivals : List Arrival) : Type 0 where
  pub as_many : length arrivals ≡ length extremes
  pub each : (i : ℕ) (a : Arrival) → slice_get arrivals i ≡ Some a →
      IsArrivalAt ppb extremes (index_at backwards (length extremes) i) a

-- no arrival's place is before that of one before it
abbrev pub AreInOrder : List Arrival → Type 0
AreInOrder queue = (i j : ℕ) (a b : Arrival) → i ≤ j → slice_get queue i ≡ Some a →
    slice_get queue j ≡ Some b → a.at ≤ b.at

-- their heights are numbers of 110 bits
abbrev pub AreSmall : List Arrival → Type 0
AreSmall queue = (i : ℕ) (a : Arrival) → slice_get queue i ≡ Some a → a.height < 2 ^ 110

-- their indices are below this
abbrev pub AreWithin : ℕ → List Arrival → Type 0
AreWithin count queue = (i : ℕ) (a : Arrival) → slice_get queue i ≡ Some a → a.index < count

-- the extremes arrive in order
pub record IsQueueOf (ppb : ℕ) (extremes : List Extreme) (queue : List Arrival) : Type 0 where
  pub each : (i : ℕ) (a : Arrival) → slice_get queue i ≡ Some a → IsArrivalOf ppb extremes a
  pub all : (index : ℕ) (extreme : Extreme) → slice_get extremes index ≡ Some extreme →
      (i : ℕ) × (a : Arrival) × (slice_get queue i ≡ Some a) × (a.index ≡ index)
  pub small : AreSmall queue
  pub in_order : AreInOrder queue
