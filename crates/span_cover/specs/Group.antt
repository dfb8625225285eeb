-- What several servers say together, over their groups.
--
-- Each server that says something has an interval. Those of one group give the interval of the
-- group: the greatest of their low ends and the least of their high ends, since all of them hold
-- the error if no server of the group is false. The hull is taken over the groups with a server
-- that says something.
use Rattle.std.specs.Prelude.{◌≡◌, ℕ, zero, suc, ◌==◌, ℤ, neg_ℤ, int_le, ◌&&◌, Bool, false, List, [], ◌∷◌, ◌++◌, length, slice_index, fold, filter, filter_map, slice_get, Option, Some, None}
use Rattle.span_cover.specs.Common.{int_max, int_min, hull_of, Interval, Hull, Unbounded, Empty, Bounded}
use Rattle.span_cover.specs.declared.part.Part.{Part}

-- the numbers from 0 on, as many as this says
abbrev pub numbers_below : ℕ → List ℕ
numbers_below zero = []
numbers_below (suc n) = numbers_below n ++ n ∷ []

-- the points that two intervals share
abbrev pub meet_of : Interval → Interval → Interval
meet_of a b = record { lo = int_max a.lo b.lo; hi = int_min a.hi b.hi }

-- what was common so far, narrowed by one more interval
abbrev pub narrowed : Option Interval → Part → Option Interval
narrowed None part = Some part.interval
narrowed (Some common) part = Some (meet_of common part.interval)

-- the number of a part's group
abbrev pub group_of : List ℕ → Part → ℕ
group_of groups part = slice_index groups part.server

-- each part is of the group that has its place's number
abbrev pub AreTheirOwn : List ℕ → List Part → Type 0
AreTheirOwn groups parts = (place : ℕ) (part : Part) → slice_get parts place ≡ Some part →
    group_of groups part ≡ place

-- the interval of a group, if one of its servers says something
abbrev pub group_interval : List ℕ → List Part → ℕ → Option Interval
group_interval groups parts group =
    fold narrowed None (filter (λ part. slice_index groups part.server == group) parts)

-- the intervals of these groups, in the order of the groups
abbrev pub group_intervals : List ℕ → List Part → List Interval
group_intervals groups parts =
    filter_map (group_interval groups parts) (numbers_below (length groups))

-- the hull over these, if `false_max` groups may be false
abbrev pub piece_hull : List ℕ → ℕ → List Part → Hull
piece_hull groups false_max parts = hull_of (group_intervals groups parts) false_max

-- a hull lies inside a bound to either side
abbrev pub is_inside : ℤ → Hull → Bool
is_inside bound Unbounded = false
is_inside bound Empty = false
is_inside bound (Bounded lo hi) = int_le (neg_ℤ bound) lo && int_le hi bound
