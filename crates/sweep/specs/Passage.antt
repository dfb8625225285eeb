-- What has to be reached over each stretch: the highest level that an early arrival reaches.
use Rattle.std.specs.Prelude.{◌≡◌, ℕ, ◌+◌, ◌<◌, ◌≤◌, List, Option, Some, None}
use Rattle.sweep.specs.Block.{IsReached}
use Rattle.sweep.specs.Top.{height_for}
use Rattle.sweep.specs.declared.lead.Lead.{Lead}
use Rattle.sweep.specs.declared.passage.Wanted.{Wanted}
use Rattle.sweep.specs.declared.queue.Arrival.{Arrival}
use Rattle.sweep.specs.declared.unsigned_stretch.UnsignedStretch.{UnsignedStretch}

-- the index's arrival comes up to the stretch's middle, and reaches the level
abbrev pub Reaches : ℕ → List Arrival → UnsignedStretch → ℕ → ℕ → Type 0
Reaches ppb queue stretch index level =
    IsReached queue (stretch.begin + stretch.end) (height_for ppb stretch.end level) index

-- the height is that for the level, and below the limit: that for the next level isn't
pub record IsWantedBelow (ppb end limit : ℕ) (wanted : Wanted) : Type 0 where
  pub height : wanted.height ≡ height_for ppb end wanted.level
  pub reached : wanted.height < limit
  pub highest : limit ≤ height_for ppb end (wanted.level + 1)

-- none if no height for a level is below the limit
abbrev pub IsWantedOf : ℕ → UnsignedStretch → Lead → Option Wanted → Type 0
IsWantedOf ppb stretch lead None = lead.limit ≤ height_for ppb stretch.end 0
IsWantedOf ppb stretch lead (Some wanted) = IsWantedBelow ppb stretch.end lead.limit wanted
