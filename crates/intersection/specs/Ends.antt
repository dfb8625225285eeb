-- The ends of intervals, and their order. Only the code's own contracts speak of these.
use Rattle.std.specs.Prelude.{◌≡◌, ◌<ℤ◌, ◌≤ℤ◌, int_le, Bool, true, false, cond, List, [], ◌∷◌, ◌++◌, flat_map, AllPairs}
use Rattle.intersection.specs.declared.kinds.Interval.{Interval}
use Rattle.intersection.specs.declared.ends.End.{End}
use Rattle.intersection.specs.declared.ends.Side.{Side}
use Rattle.intersection.specs.declared.ends.Side.TheVariants.{Low, High}

-- the low end of an interval that has a point, otherwise none
abbrev pub low_end : Interval → List End
low_end interval =
    cond (int_le interval.lo interval.hi) (record { at = interval.lo; side = Low } ∷ []) []

-- the high end of an interval that has a point, otherwise none
abbrev pub high_end : Interval → List End
high_end interval =
    cond (int_le interval.lo interval.hi) (record { at = interval.hi; side = High } ∷ []) []

abbrev pub ends_of : List Interval → List End
ends_of list = flat_map low_end list ++ flat_map high_end list

-- a low end may stand before any end that isn't below it, and a high end only before a low one that
-- is above it
abbrev pub MayPrecede : End → End → Type 0
MayPrecede first second =
    (first.at ≤ℤ second.at) × (first.side ≡ High → second.side ≡ Low → first.at <ℤ second.at)

-- each end may precede those after it
abbrev pub IsInOrder : List End → Type 0
IsInOrder ends = AllPairs MayPrecede ends

abbrev pub is_low : Side → Bool
is_low Low = true
is_low High = false

-- whether a walk that enters intervals at this side enters one at this end
abbrev pub enters : Side → End → Bool
enters Low end = is_low end.side
enters High end = cond (is_low end.side) false true
