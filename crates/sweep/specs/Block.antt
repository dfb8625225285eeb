-- Which block of indices is the first that reaches a height.
--
-- The indices are cut into blocks of a width. A block's limit is one more than the greatest height
-- of the arrivals in it, and 0 if there are none: so a height is reached in the block exactly if
-- it's below the limit. A block of one width holds 128 of a 128th of it. So the first index that
-- reaches a height is found in three turns, each of which looks at 128 limits at most.
use Rattle.std.specs.Prelude.{◌≡◌, ℕ, ◌+◌, ◌/◌, ◌<◌, ◌≤◌, ◌⊎◌, List, length, Some, slice_get, slice_index_or}
use Rattle.sweep.specs.declared.block.Blocks.{Blocks}
use Rattle.sweep.specs.declared.queue.Arrival.{Arrival}

-- the arrival of this index comes up to the place, and is no lower than the height
pub record IsReached (queue : List Arrival) (place height index : ℕ) : Type 0 where
  pub turn : ℕ
  pub arrival : Arrival
  pub stands : slice_get queue turn ≡ Some arrival
  pub of_index : arrival.index ≡ index
  pub no_later : arrival.at ≤ place
  pub no_lower : height ≤ arrival.height

-- the first block with an index that reaches the height
pub record IsFirstBlock (queue : List Arrival) (place height width block : ℕ) : Type 0 where
  pub index : ℕ
  pub reached : IsReached queue place height index
  pub in_block : index / width ≡ block
  pub first : (other : ℕ) → IsReached queue place height other → block ≤ other / width

-- this holds of the index of one of the first arrivals, whose height is one less than the limit
pub record IsLimitOf (queue : List Arrival) (next : ℕ) (holds : ℕ → Type 0) (limit : ℕ)
    : Type 0 where
  pub turn : ℕ
  pub arrival : Arrival
  pub before : turn < next
  pub stands : slice_get queue turn ≡ Some arrival
  pub of_index : holds arrival.index
  pub is : limit ≡ arrival.height + 1

-- the limits of the blocks, of the first arrivals
pub record AreLimitsOf (queue : List Arrival) (next width : ℕ) (limits : List ℕ) : Type 0 where
  pub few : length limits ≤ 1_000_001
  pub room : (turn : ℕ) (arrival : Arrival) → slice_get queue turn ≡ Some arrival →
      arrival.index / width < length limits
  pub above : (turn : ℕ) (arrival : Arrival) → turn < next → slice_get queue turn ≡ Some arrival →
      arrival.height < slice_index_or limits (arrival.index / width) 0
  pub of_one : (block : ℕ) → (slice_index_or limits block 0 ≡ 0)
      ⊎ IsLimitOf queue next (λ index. index / width ≡ block) (slice_index_or limits block 0)

-- the first arrivals are those that come up to the place
pub record AreUpto (queue : List Arrival) (place next : ℕ) : Type 0 where
  pub within : next ≤ length queue
  pub upto : (turn : ℕ) (arrival : Arrival) → turn < next → slice_get queue turn ≡ Some arrival →
      arrival.at ≤ place
  pub beyond : (turn : ℕ) (arrival : Arrival) → next ≤ turn → slice_get queue turn ≡ Some arrival →
      place < arrival.at

-- the limits of blocks of three widths
pub record AreBlocksOf (queue : List Arrival) (blocks : Blocks) : Type 0 where
  pub of_1 : AreLimitsOf queue blocks.taken 1 blocks.of_1.items
  pub of_128 : AreLimitsOf queue blocks.taken 128 blocks.of_128.items
  pub of_16384 : AreLimitsOf queue blocks.taken 16384 blocks.of_16384.items
