-- Extremes and stretches with time running backwards.
use Rattle.sweep.proofs.Common.{◌≡◌, ℕ, ◌+◌, ◌-◌, ◌≤◌, ◌^◌, List, length, Some, map, reverse, arith, slice_get, All, length-map, All-map, All-weaker, All-permutation, IsPermutation-reverse, IsLawfulExtreme, mirrored_extreme, IsLawfulStretch, MiddlesRise, mirrored_stretch, distance, Extreme, UnsignedStretch, All-slice_get}
use Rattle.sweep.proofs.List.{map_at, at_map, at_reverse, reverse_at}

pub lawful-mirrored_extreme : (extreme : Extreme) → IsLawfulExtreme extreme → IsLawfulExtreme (mirrored_extreme extreme)
lawful-mirrored_extreme extreme is = omega arith

pub lawful-mirrored_stretch : (stretch : UnsignedStretch) → IsLawfulStretch stretch
    → IsLawfulStretch (mirrored_stretch stretch)
lawful-mirrored_stretch stretch is = omega arith

pub lawful-mirrored_stretches : (stretches : List UnsignedStretch) → All IsLawfulStretch stretches →
    All IsLawfulStretch (reverse (map mirrored_stretch stretches))
lawful-mirrored_stretches stretches all =
    All-permutation IsLawfulStretch (map mirrored_stretch stretches) (reverse (map mirrored_stretch stretches))
    (IsPermutation-reverse (map mirrored_stretch stretches))
    (All-map IsLawfulStretch mirrored_stretch stretches
    (All-weaker IsLawfulStretch (λ s. IsLawfulStretch (mirrored_stretch s)) lawful-mirrored_stretch stretches all))

middles_turn : (a b : UnsignedStretch) → IsLawfulStretch a → IsLawfulStretch b → b.begin + b.end ≤ a.begin + a.end →
    (2 ^ 76 - a.end) + (2 ^ 76 - a.begin) ≤ (2 ^ 76 - b.end) + (2 ^ 76 - b.begin)
middles_turn a b is_a is_b le = omega (arith, is_a.ends, is_a.in_order, is_b.ends, is_b.in_order)

pub MiddlesRise-mirrored : (stretches : List UnsignedStretch) → All IsLawfulStretch stretches → MiddlesRise stretches →
    MiddlesRise (reverse (map mirrored_stretch stretches))
MiddlesRise-mirrored stretches all rise i j a b le at_a at_b =
    let back_a = at_reverse (map mirrored_stretch stretches) i a at_a in
    let back_b = at_reverse (map mirrored_stretch stretches) j b at_b in
    let from_a = at_map mirrored_stretch stretches _ a back_a.1 in
    let from_b = at_map mirrored_stretch stretches _ b back_b.1 in
    let less = rise _ _ from_b.0 from_a.0 (omega arith) from_b.1 from_a.1 in
    let turned = middles_turn from_a.0 from_b.0 (All-slice_get IsLawfulStretch stretches _ from_a.0 all from_a.1)
    (All-slice_get IsLawfulStretch stretches _ from_b.0 all from_b.1) less in
    rw (from_b.2, from_a.2) turned

-- the mirrored stretch stands as far from the end
pub mirrored_at : (stretches : List UnsignedStretch) (k : ℕ) (stretch : UnsignedStretch) →
    slice_get stretches k ≡ Some stretch →
    slice_get (reverse (map mirrored_stretch stretches)) (length stretches - 1 - k) ≡ Some (mirrored_stretch stretch)
mirrored_at stretches k stretch at =
    rw (length-map stretches mirrored_stretch) at
    (reverse_at (map mirrored_stretch stretches) k _ (map_at mirrored_stretch stretches k stretch at))

-- the distance is the same
pub distance-mirrored : (extreme : Extreme) (stretch : UnsignedStretch) → IsLawfulExtreme extreme →
    IsLawfulStretch stretch →
    distance (mirrored_extreme extreme) (mirrored_stretch stretch) ≡ distance extreme stretch
distance-mirrored extreme stretch b s = omega (arith, b.begins, b.in_order, b.ends, s.begins, s.in_order, s.ends)
