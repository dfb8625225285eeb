-- Hulls by covers: what the clock's error can't be outside of, in any course that fits.
use Rattle.std.specs.Prelude.{◌≡◌, ⊤, ℕ, ◌-◌, ◌<◌, ◌≤◌, ℤ, pos, ◌+ℤ◌, ◌-ℤ◌, ◌*ℤ◌, ◌≤ℤ◌, ◌<ℤ◌, Bool, false, List, [], ◌∷◌, All, AllPairs, Any, Some, fold, length, ◌⊎◌, slice_get, unsigned_abs}
use Rattle.std.specs.Int.{int_max, int_min}
use Rattle.cover_finder.specs.Common.{AreLeastCovers, Bounded, ClaimData, Course, Empty, Exchange, Fits, Groups, HoldsErrorOf, Hull, IsSaidBySome, Part, Stretch, Unbounded, error_of, group_of, high_mark, high_over, holds, low_mark, low_over, piece_hull, size_of, widening}

-- A part is all that its server says over a stretch: none of the server's low marks says that the
-- error is higher, and none of its high marks that it is lower.
pub record IsWhole (claim : ClaimData) (xs : List Exchange) (stretch : Stretch) (part : Part)
    : Type 0 where
  pub low : (number : ℕ) (x : Exchange) → slice_get xs number ≡ Some x → x.server ≡ part.server
      → low_over claim.drift_ppb stretch (low_mark claim.reading x) ≤ℤ part.interval.lo
  pub high : (number : ℕ) (x : Exchange) → slice_get xs number ≡ Some x → x.server ≡ part.server
      → part.interval.hi ≤ℤ high_over claim.drift_ppb stretch (high_mark claim.reading x)

-- Parts are all that the servers say whose groups aren't left out: one for each that has an
-- exchange, in the order of the servers.
pub record AreWhole (claim : ClaimData) (xs : List Exchange) (out : ℕ → Bool) (stretch : Stretch)
    (parts : List Part) : Type 0 where
  pub said : All (IsSaidBySome claim xs out stretch) parts
  pub whole : All (IsWhole claim xs stretch) parts
  pub each : (number : ℕ) (x : Exchange) → slice_get xs number ≡ Some x
      → out (group_of claim x) ≡ false → Any (λ part. part.server ≡ x.server) parts
  pub listed : All (λ part. part.server < length claim.groups) parts
  pub rising : AllPairs (λ a b. a.server < b.server) parts

-- the least hull that holds what either of two holds
abbrev pub join_of : Hull → Hull → Hull
join_of Unbounded b = Unbounded
join_of Empty b = b
join_of (Bounded lo hi) Unbounded = Unbounded
join_of (Bounded lo hi) Empty = Bounded lo hi
join_of (Bounded lo hi) (Bounded low high) = Bounded (int_min lo low) (int_max hi high)

-- the hull over a stretch of all that the servers say whose groups aren't left out, if each of
-- those that are holds a false server
pub record IsHullWithout (claim : ClaimData) (xs : List Exchange) (stretch : Stretch)
    (out : ℕ → Bool) (hull : Hull) : Type 0 where
  pub parts : List Part
  pub whole : AreWhole claim xs out stretch parts
  pub is : hull ≡ piece_hull claim.groups (claim.false_max - size_of claim out) parts

-- The least hull that holds those of several cases. In each of these, the groups that are left out
-- hold a false server each.
pub record IsHullOf (claim : ClaimData) (xs : List Exchange) (stretch : Stretch)
    (cases : List Groups) (hull : Hull) : Type 0 where
  pub hulls : List Hull
  pub same_number : length hulls ≡ length cases
  pub each : (k : ℕ) (out : Groups) (one : Hull) → slice_get cases k ≡ Some out
      → slice_get hulls k ≡ Some one → IsHullWithout claim xs stretch (holds out) one
  pub joined : hull ≡ fold join_of Empty hulls

-- a single case, in which no group is left out
abbrev pub IsWithoutCovers : List Groups → Type 0
IsWithoutCovers cases =
    (out : Groups) × (cases ≡ out ∷ []) × ((group : ℕ) → holds out group ≡ false)

-- minimal covers are the cases, if they are known to be all
abbrev pub AreOfCovers : List Groups → List Groups → Type 0
AreOfCovers covers cases =
    ((length covers < 64) × (cases ≡ covers)) ⊎ ((64 ≤ length covers) × IsWithoutCovers cases)

-- these are the cases of the minimal covers of the conflicts
pub record AreCasesOfCovers (claim : ClaimData) (xs : List Exchange) (cases : List Groups)
    : Type 0 where
  pub covers : List Groups
  pub are : AreLeastCovers claim xs covers
  pub of_covers : AreOfCovers covers cases

-- the hull by covers over a stretch: of the minimal covers of the conflicts
pub record IsHullByCovers (claim : ClaimData) (xs : List Exchange) (stretch : Stretch)
    (hull : Hull) : Type 0 where
  pub cases : List Groups
  pub of : AreCasesOfCovers claim xs cases
  pub hull_of : IsHullOf claim xs stretch cases hull

-- In every course that fits, the error lies in the hull at every moment whose reading lies in the
-- stretch. An unbounded hull says nothing, and an empty one that no course has such a moment.
abbrev pub HoldsError : ClaimData → List Exchange → Stretch → Hull → Type 0
HoldsError claim xs stretch hull = HoldsErrorOf claim xs stretch (λ course. ⊤) hull

-- ---- how near the ends are

-- how much the error may change while the clock advances over a stretch, rounded up to a tick
abbrev pub change_over : ℕ → Stretch → ℤ
change_over ppb stretch =
    pos (widening ppb (unsigned_abs (stretch.end -ℤ stretch.begin)))

-- a course that fits, and is observed when the clock shows the first tick of a stretch
pub record IsObservedFirst (claim : ClaimData) (xs : List Exchange) (stretch : Stretch)
    (course : Course) : Type 0 where
  pub fits : Fits claim xs course
  pub first : course.observation.reading ≡ (stretch.begin *ℤ pos course.fineness)

-- The error comes less than a tick near to a low end in some course that fits, but for what it may
-- change over the stretch; and a tick near to a high end, or less.
pub record AreNearlyAttained (claim : ClaimData) (xs : List Exchange) (stretch : Stretch)
    (lo hi : ℤ) : Type 0 where
  pub low : (course : Course) × IsObservedFirst claim xs stretch course
      × (error_of course.observation
      <ℤ (((lo +ℤ pos 1) +ℤ change_over claim.drift_ppb stretch) *ℤ pos course.fineness))
  pub high : (course : Course) × IsObservedFirst claim xs stretch course
      × ((((hi -ℤ pos 1) -ℤ change_over claim.drift_ppb stretch) *ℤ pos course.fineness)
      ≤ℤ error_of course.observation)

-- so it is of both ends of a hull that has some
abbrev pub IsNearlyAttained : ClaimData → List Exchange → Stretch → Hull → Type 0
IsNearlyAttained claim xs stretch Unbounded = ⊤
IsNearlyAttained claim xs stretch Empty = ⊤
IsNearlyAttained claim xs stretch (Bounded lo hi) = AreNearlyAttained claim xs stretch lo hi
