-- What follows of hulls from their definition.
use Rattle.intersection.proofs.Common.{◌≡◌, ℕ, ◌<◌, ◌≤◌, ℤ, ◌↔◌, List, length, IsPermutation, refl, arith, ints, sum_by-IsPermutation, length_permutation, count_leaving_out, IsAdmissible, IsLeastAdmissible, IsGreatestAdmissible, IsHull, HullHolds, IfBounded, DescribesHull, hull_of, Interval, Hull, Unbounded, Empty, Bounded}
use Rattle.intersection.proofs.EndPoints.{IsHull-hull_of}

pub one_answer : (list : List Interval) (f : ℕ) (first second : Hull) → IsHull list f first → IsHull list f second
    → first ≡ second
one_answer list f Unbounded Unbounded h k = refl
one_answer list f Unbounded Empty h k = absurd (omega arith)
one_answer list f Unbounded (Bounded lo hi) h k = absurd (omega arith)
one_answer list f Empty Unbounded h k = absurd (omega arith)
one_answer list f Empty Empty h k = refl
one_answer list f Empty (Bounded lo hi) h k = absurd (h.1 lo k.1.0)
one_answer list f (Bounded lo hi) Unbounded h k = absurd (omega arith)
one_answer list f (Bounded lo hi) Empty h k = absurd (k.1 lo h.1.0)
one_answer list f (Bounded lo hi) (Bounded lo' hi') h k =
    let least = h.1.1 lo' k.1.0 in
    let least' = k.1.1 lo h.1.0 in
    let greatest = h.2.1 hi' k.2.0 in
    let greatest' = k.2.1 hi h.2.0 in
    let same_lo : lo ≡ lo' = omega (arith, ints) in
    let same_hi : hi ≡ hi' = omega (arith, ints) in
    cc

pub nested : (list : List Interval) (f g : ℕ) (wide narrow : Hull) (point : ℤ) → g ≤ f → IsHull list f wide
    → IsHull list g narrow → HullHolds narrow point → HullHolds wide point
nested list f g Unbounded narrow point le w n h = tt
nested list f g Empty Unbounded point le w n h = omega arith
nested list f g Empty Empty point le w n h = h
nested list f g Empty (Bounded lo hi) point le w n h = w.1 lo (omega arith)
nested list f g (Bounded lo hi) Unbounded point le w n h = absurd (omega arith)
nested list f g (Bounded lo hi) Empty point le w n h = absurd h
nested list f g (Bounded lo hi) (Bounded lo' hi') point le w n h =
    let least = w.1.1 lo' (omega arith) in
    let greatest = w.2.1 hi' (omega arith) in
    (omega (arith, ints), omega (arith, ints))

-- as many intervals leave a point out in whatever order they stand
count_moved : (list other : List Interval) (point : ℤ) → IsPermutation list other
    → count_leaving_out other point ≡ count_leaving_out list point
count_moved list other point moved = sum_by-IsPermutation _ list other moved

pub free_of_order : (list other : List Interval) (f : ℕ) (hull : Hull) → IsPermutation list other → IsHull list f hull
    → IsHull other f hull
free_of_order list other f Unbounded moved h = let same = length_permutation list other moved in omega arith
free_of_order list other f Empty moved h =
    let same = length_permutation list other moved in
    (omega arith, λ point few. h.1 point (let still = count_moved list other point moved in omega arith))
free_of_order list other f (Bounded lo hi) moved h =
    let same = length_permutation list other moved in
    let few : (point : ℤ) → IsAdmissible list f point ↔ IsAdmissible other f point =
    λ point. let still = count_moved list other point moved in (λ k. omega arith, λ k. omega arith) in (
      omega arith,
      ((few lo).0 h.1.0, λ point k. h.1.1 point ((few point).1 k)),
      ((few hi).0 h.2.0, λ point k. h.2.1 point ((few point).1 k)),
    )

-- ---- a hull, by its cases
pub unbounded_exactly : (list : List Interval) (f : ℕ) (hull : Hull) → IsHull list f hull → (hull ≡ Unbounded)
    ↔ (length list ≤ f)
unbounded_exactly list f Unbounded h = (λ e. h, λ le. refl)
unbounded_exactly list f Empty h = (λ e. absurd cc, λ le. absurd (omega arith))
unbounded_exactly list f (Bounded lo hi) h = (λ e. absurd cc, λ le. absurd (omega arith))

pub empty_exactly : (list : List Interval) (f : ℕ) (hull : Hull) → IsHull list f hull → (hull ≡ Empty)
    ↔ ((f < length list) × ((point : ℤ) → ¬ (IsAdmissible list f point)))
empty_exactly list f Unbounded h = (λ e. absurd cc, λ k. absurd (omega arith))
empty_exactly list f Empty h = (λ e. h, λ k. refl)
empty_exactly list f (Bounded lo hi) h = (λ e. absurd cc, λ k. absurd (k.1 lo h.1.0))

pub bounded_ends : (list : List Interval) (f : ℕ) (hull : Hull) → IsHull list f hull
    → IfBounded hull (λ lo hi. IsLeastAdmissible list f lo × IsGreatestAdmissible list f hi)
bounded_ends list f Unbounded h = tt
bounded_ends list f Empty h = tt
bounded_ends list f (Bounded lo hi) h = (h.1, h.2)

pub every_point : (list : List Interval) (f : ℕ) (hull : Hull) → IsHull list f hull → (point : ℤ)
    → IsAdmissible list f point → HullHolds hull point
every_point list f Unbounded h point few = tt
every_point list f Empty h point few = h.1 point few
every_point list f (Bounded lo hi) h point few = (h.1.1 point few, h.2.1 point few)

pub described : (list : List Interval) (f : ℕ) (hull : Hull) → IsHull list f hull → DescribesHull list f hull
described list f hull h =
    grind (
      arith,
      unbounded_exactly list f hull h,
      empty_exactly list f hull h,
      bounded_ends list f hull h,
      every_point list f hull h,
      one_answer list f hull (hull_of list f) h (IsHull-hull_of list f),
    )
