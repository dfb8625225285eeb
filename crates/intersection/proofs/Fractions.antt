-- Products by a positive number, floors and ceilings, and whole points beside fractions.
use Rattle.intersection.proofs.Common.{ℕ, ◌/◌, ◌<◌, ℤ, pos, negsuc, ◌+ℤ◌, ◌*ℤ◌, ◌<ℤ◌, ◌≤ℤ◌, List, refl, arith, ints, by_lt_z, sum_by-le-sum_by, times-add, times_le, IsAdmissible, IsHull, HoldsFraction, IsAdmissibleFraction, HullHoldsFraction, Interval, Hull, Unbounded, Empty, Bounded, nat_tests}
use Rattle.era_unfold.specs.Ratio.{IsSignedFloor, IsSignedCeiling}

-- a whole number of which n times lies below n times q + 1 is no more than q
no_more : (q whole : ℤ) (n : ℕ) → (whole *ℤ pos n) <ℤ ((q *ℤ pos n) +ℤ pos n) → whole ≤ℤ q
no_more q whole n h = by_lt_z q whole
    (λ less. absurd (let step = times_le (q +ℤ pos 1) whole n (omega (arith, ints)) in
    let next = times-add (q +ℤ pos 1) q (pos 1) n refl in omega (arith, ints)))
    (λ le. le)

-- if products by n are in order, so are the factors
pub le_from_times : (a b : ℤ) (n : ℕ) → 0 < n → (a *ℤ pos n) ≤ℤ (b *ℤ pos n) → a ≤ℤ b
le_from_times a b n positive h = no_more b a n (omega (arith, ints))

-- q is the floor if e/n lies from q to below q + 1
floor_between : (q e : ℤ) (n : ℕ) → (q *ℤ pos n) ≤ℤ e → e <ℤ ((q *ℤ pos n) +ℤ pos n) → IsSignedFloor q e n
floor_between q e n low high = (low, λ whole below. no_more q whole n (omega (arith, ints)))

pub has_floor : (e : ℤ) (n : ℕ) → 0 < n → (floor : ℤ) × IsSignedFloor floor e n
has_floor (pos a) n positive =
    (pos (a / n), floor_between (pos (a / n)) (pos a) n (omega (arith, ints)) (omega (arith, ints)))
has_floor (negsuc a) n positive =
    (negsuc (a / n), floor_between (negsuc (a / n)) (negsuc a) n (omega (arith, ints)) (omega (arith, ints)))

-- the ceiling of e/n is the floor of (e + n - 1)/n
pub has_ceiling : (e : ℤ) (n : ℕ) → 0 < n → (ceiling : ℤ) × IsSignedCeiling ceiling e n
has_ceiling e n positive =
    let q = has_floor ((e +ℤ pos n) +ℤ negsuc 0) n positive in
    let low = q.1.0 in
    let next = times-add (q.0 +ℤ pos 1) q.0 (pos 1) n refl in (
      q.0,
      (
        by_lt_z (q.0 *ℤ pos n) e
            (λ less. absurd (let no = q.1.1 (q.0 +ℤ pos 1) (omega (arith, ints)) in omega (arith, ints)))
            (λ le. le),
        λ whole above. no_more whole q.0 n (omega (arith, ints)),
      ),
    )

pub floor_inside : (interval : Interval) (e floor : ℤ) (n : ℕ) → 0 < n → HoldsFraction interval e n
    → IsSignedFloor floor e n → (interval.lo ≤ℤ floor) × (floor ≤ℤ interval.hi)
floor_inside interval e floor n positive inside is =
    (is.1 interval.lo inside.0, le_from_times floor interval.hi n positive (omega (arith, ints)))

pub ceiling_inside : (interval : Interval) (e ceiling : ℤ) (n : ℕ) → 0 < n → HoldsFraction interval e n
    → IsSignedCeiling ceiling e n → (interval.lo ≤ℤ ceiling) × (ceiling ≤ℤ interval.hi)
ceiling_inside interval e ceiling n positive inside is =
    (le_from_times interval.lo ceiling n positive (omega (arith, ints)), is.1 interval.hi inside.1)

-- a point that lies in each interval in which the fraction lies is left out by no more intervals
neighbor_admissible : (list : List Interval) (f : ℕ) (e point : ℤ) (n : ℕ) → IsAdmissibleFraction list f e n
    → ((interval : Interval) → HoldsFraction interval e n → (interval.lo ≤ℤ point) × (point ≤ℤ interval.hi))
    → IsAdmissible list f point
neighbor_admissible list f e point n few inside = grind (arith, ints, nat_tests, sum_by-le-sum_by)

pub floor_admissible : (list : List Interval) (f : ℕ) (e floor : ℤ) (n : ℕ) → 0 < n → IsAdmissibleFraction list f e n
    → IsSignedFloor floor e n → IsAdmissible list f floor
floor_admissible list f e floor n positive few is =
    neighbor_admissible list f e floor n few (λ interval inside. floor_inside interval e floor n positive inside is)

pub ceiling_admissible : (list : List Interval) (f : ℕ) (e ceiling : ℤ) (n : ℕ) → 0 < n
    → IsAdmissibleFraction list f e n → IsSignedCeiling ceiling e n → IsAdmissible list f ceiling
ceiling_admissible list f e ceiling n positive few is =
    neighbor_admissible list f e ceiling n few
    (λ interval inside. ceiling_inside interval e ceiling n positive inside is)

pub hull_is_fine : (list : List Interval) (f : ℕ) (hull : Hull) (e : ℤ) (n : ℕ) → 0 < n
    → IsAdmissibleFraction list f e n → IsHull list f hull → HullHoldsFraction hull e n
hull_is_fine list f Unbounded e n positive few is = tt
hull_is_fine list f Empty e n positive few is =
    let floor = has_floor e n positive in
    is.1 floor.0 (floor_admissible list f e floor.0 n positive few floor.1)
hull_is_fine list f (Bounded lo hi) e n positive few is =
    let floor = has_floor e n positive in
    let ceiling = has_ceiling e n positive in
    let above_lo = times_le lo floor.0 n (is.1.1 floor.0 (floor_admissible list f e floor.0 n positive few floor.1)) in
    let below_hi =
    times_le ceiling.0 hi n (is.2.1 ceiling.0 (ceiling_admissible list f e ceiling.0 n positive few ceiling.1)) in
    let at_floor = floor.1.0 in
    let at_ceiling = ceiling.1.0 in
    (omega (arith, ints), omega (arith, ints))

pub ruleset whole_neighbors = (has_floor, has_ceiling)

pub ruleset fine_enough = (floor_inside, ceiling_inside, hull_is_fine)
