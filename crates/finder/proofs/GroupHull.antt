-- Narrower intervals of the same servers: the hull over their groups is no wider, and if the wider one is empty, so
-- is this one.
use Rattle.finder.proofs.Common.{ℕ, ◌<◌, ℤ, true, List, length, refl, arith, leaves_out, Hull, Unbounded, Empty, Bounded, Interval, AreNarrower, group_intervals, piece_hull, Part, IsNoWider, meet_leaves_it_out, all_counted, no_fewer_groups, still_left_out}
use Rattle.intersection.specs.Hull.{IsAdmissible, IsHull}
use Rattle.intersection.proofs.EndPoints.{IsHull-hull_of}

no_wider : (list other : List Interval) (f : ℕ) (hull next : Hull)
    → ((point : ℤ) → IsAdmissible other f point → IsAdmissible list f point) → (f < length list → f < length other)
    → IsHull list f hull → IsHull other f next → IsNoWider hull next
no_wider list other f Unbounded next fewer longer is is' = tt
no_wider list other f Empty Unbounded fewer longer is is' = absurd (let more = longer is.0 in omega arith)
no_wider list other f Empty Empty fewer longer is is' = refl
no_wider list other f Empty (Bounded lo hi) fewer longer is is' = absurd (is.1 lo (fewer lo is'.1.0))
no_wider list other f (Bounded lo hi) Unbounded fewer longer is is' = let more = longer is.0 in omega arith
no_wider list other f (Bounded lo hi) Empty fewer longer is is' = tt
no_wider list other f (Bounded lo hi) (Bounded lo' hi') fewer longer is is' =
    (is.1.1 lo' (fewer lo' is'.1.0), is.2.1 hi' (fewer hi' is'.2.0))

pub narrower_is_no_wider : (groups : List ℕ) (f : ℕ) (parts next : List Part)
    → AreNarrower parts next → IsNoWider (piece_hull groups f parts) (piece_hull groups f next)
narrower_is_no_wider groups f parts next each =
    let list = group_intervals groups parts in
    let other = group_intervals groups next in
    let longer = no_fewer_groups (λ i. true) (λ a b. refl) (λ part next is h. refl) groups parts next each in
    no_wider list other f (piece_hull groups f parts) (piece_hull groups f next)
    (λ point few.
    let counts = no_fewer_groups (λ i. leaves_out i point) (meet_leaves_it_out point) (still_left_out point) groups
    parts next each in
    omega arith)
    (λ some. omega (arith, longer, all_counted list, all_counted other))
    (IsHull-hull_of list f) (IsHull-hull_of other f)
