-- The hull of a list of intervals of which some may be wrong (RFC 5905, section 11.2.1: correctness
-- intervals of servers, some of them false tickers).
--
-- If at most f intervals of the list are wrong, then the true value is a point that at most f of
-- them leave out. Such a point is admissible. The hull is the least range with every admissible
-- point: it speaks of all whole points, and not of the ends of the intervals.
use Rattle.std.specs.Prelude.{◌≡◌, ℕ, ◌<◌, ◌≤◌, ℤ, ◌≤ℤ◌, ◌↔◌, List, [], ◌∷◌, length, count_by, ⊤, nat_le, filter, flat_map, fold, if◌then◌else◌}
use Rattle.std.specs.Int.{int_max, int_min}
use Rattle.intersection.specs.Interval.{leaves_out}
use Rattle.intersection.specs.declared.kinds.Interval.{Interval}
use Rattle.intersection.specs.declared.kinds.Hull.{Hull}
use Rattle.intersection.specs.declared.kinds.Hull.TheVariants.{Unbounded, Empty, Bounded}

-- how many intervals leave a point out
abbrev pub count_leaving_out : List Interval → ℤ → ℕ
count_leaving_out list point = count_by (λ interval. leaves_out interval point) list

-- at most f intervals leave the point out
abbrev pub IsAdmissible : List Interval → ℕ → ℤ → Type 0
IsAdmissible list f point = count_leaving_out list point ≤ f

-- an admissible point with none below it
abbrev pub IsLeastAdmissible : List Interval → ℕ → ℤ → Type 0
IsLeastAdmissible list f lo =
    IsAdmissible list f lo × ((point : ℤ) → IsAdmissible list f point → lo ≤ℤ point)

-- an admissible point with none above it
abbrev pub IsGreatestAdmissible : List Interval → ℕ → ℤ → Type 0
IsGreatestAdmissible list f hi =
    IsAdmissible list f hi × ((point : ℤ) → IsAdmissible list f point → point ≤ℤ hi)

-- Unbounded if every interval may be wrong; else Empty if no point is admissible; else from the
-- least admissible point to the greatest
abbrev pub IsHull : List Interval → ℕ → Hull → Type 0
IsHull list f Unbounded = length list ≤ f
IsHull list f Empty = (f < length list) × ((point : ℤ) → ¬ (IsAdmissible list f point))
IsHull list f (Bounded lo hi) =
    (f < length list) × IsLeastAdmissible list f lo × IsGreatestAdmissible list f hi

-- the point lies in the hull
abbrev pub HullHolds : Hull → ℤ → Type 0
HullHolds Unbounded point = ⊤
HullHolds Empty point = ⊥
HullHolds (Bounded lo hi) point = (lo ≤ℤ point) × (point ≤ℤ hi)

-- if the hull is bounded, this holds of its ends
abbrev pub IfBounded : Hull → (ℤ → ℤ → Type 0) → Type 0
IfBounded Unbounded P = ⊤
IfBounded Empty P = ⊤
IfBounded (Bounded lo hi) P = P lo hi

-- both ends of each interval
abbrev pub end_points : List Interval → List ℤ
end_points list = flat_map (λ interval. interval.lo ∷ interval.hi ∷ []) list

-- the ends that are admissible
abbrev pub admissible_ends : List Interval → ℕ → List ℤ
admissible_ends list f =
    filter (λ point. nat_le (count_leaving_out list point) f) (end_points list)

-- the range from the least of some points to the greatest
abbrev pub range_of : List ℤ → Hull
range_of [] = Empty
range_of (point ∷ points) = Bounded (fold int_min point points) (fold int_max point points)

-- the hull as a value: if a point is admissible, so is an end below it and one above it, and so the
-- ends alone decide
unfoldable pub hull_of : List Interval → ℕ → Hull
hull_of list f =
    if nat_le (length list) f then Unbounded else range_of (admissible_ends list f)

-- what the hull of a list says about it, each fact by a name
pub record DescribesHull (list : List Interval) (f : ℕ) (answer : Hull) : Type 0 where
  pub hull : IsHull list f answer
  pub unbounded : (answer ≡ Unbounded) ↔ (length list ≤ f)
  pub empty : (answer ≡ Empty) ↔ ((f < length list) × ((point : ℤ) → ¬ (IsAdmissible list f point)))
  pub ends : IfBounded answer (λ lo hi. IsLeastAdmissible list f lo
      × IsGreatestAdmissible list f hi)
  pub every_admissible_point : (point : ℤ) → IsAdmissible list f point → HullHolds answer point
  pub value : answer ≡ hull_of list f
