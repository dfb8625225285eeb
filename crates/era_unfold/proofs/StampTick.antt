-- The tick that a timestamp stands for near a moment.
use Rattle.std.proofs.Common.{◌≡◌, ℕ, ◌+◌, ◌-◌, ◌/◌, ◌%◌, ◌≤◌, ℤ, pos, negsuc, ◌+ℤ◌, ◌-ℤ◌, ◌*ℤ◌, neg_ℤ, ◌≤ℤ◌, ◌<ℤ◌, unsigned_abs, arith}
use Rattle.std.proofs.lemmas.Int.{ints}
use Rattle.std.specs.Int.{int_rem_euclid}
use Rattle.era_unfold.specs.Stamp.{era, half_era, ticks_before_1970, StandsFor, IsUnfolded, unfolded}

-- a remainder by an era is the number and a whole number of eras
whole_eras : (z : ℤ) → (k : ℤ) × (z +ℤ k *ℤ pos era ≡ int_rem_euclid z (pos era))
whole_eras (pos a) = (neg_ℤ (pos (a / era)), omega (arith, ints))
whole_eras (negsuc a) = (pos (a / era + 1), omega (arith, ints))

within_era : (z : ℤ) → (pos 0 ≤ℤ int_rem_euclid z (pos era)) × (int_rem_euclid z (pos era) <ℤ pos era)
within_era (pos a) = (omega (arith, ints), omega (arith, ints))
within_era (negsuc a) = (omega (arith, ints), omega (arith, ints))

shifted : (stamp : ℕ) (first r k : ℤ) → pos stamp -ℤ pos ticks_before_1970 -ℤ first +ℤ k *ℤ pos era ≡ r
    → pos stamp +ℤ k *ℤ pos era ≡ first +ℤ r +ℤ pos ticks_before_1970
shifted stamp first r k e = omega (arith, ints)

below_half : (near r : ℤ) → r <ℤ pos era → (near -ℤ pos half_era +ℤ r) <ℤ (near +ℤ pos half_era)
below_half near r h = omega (arith, ints)

above_half : (near r : ℤ) → pos 0 ≤ℤ r → (near -ℤ pos half_era) ≤ℤ (near -ℤ pos half_era +ℤ r)
above_half near r h = omega (arith, ints)

pub IsUnfolded-unfolded : (stamp : ℕ) (near : ℤ) → IsUnfolded stamp near (unfolded stamp near)
unfolding unfolded
IsUnfolded-unfolded stamp near =
    let first = near -ℤ pos half_era in
    let z = pos stamp -ℤ pos ticks_before_1970 -ℤ first in
    let r = int_rem_euclid z (pos era) in
    let k = whole_eras z in
    let within = within_era z in
    record {
      stands_for = record { eras = k.0; ticks_since_1900 = shifted stamp first r k.0 k.1 };
      not_before = above_half near r within.0;
      before = below_half near r within.1;
    }

one_number : (stamp : ℕ) (near s t j k : ℤ) → pos stamp +ℤ j *ℤ pos era ≡ s +ℤ pos ticks_before_1970
    → pos stamp +ℤ k *ℤ pos era ≡ t +ℤ pos ticks_before_1970 → (near -ℤ pos half_era) ≤ℤ s
    → s <ℤ (near +ℤ pos half_era) → (near -ℤ pos half_era) ≤ℤ t → t <ℤ (near +ℤ pos half_era) → s ≡ t
one_number stamp near s t j k e f a b c d = omega (arith, ints)

-- no two numbers are what a timestamp stands for near one moment
pub IsUnfolded-one_number : (stamp : ℕ) (near s t : ℤ) → IsUnfolded stamp near s → IsUnfolded stamp near t → s ≡ t
IsUnfolded-one_number stamp near s t h g =
    one_number stamp near s t h.stands_for.eras g.stands_for.eras h.stands_for.ticks_since_1900
    g.stands_for.ticks_since_1900 h.not_before h.before g.not_before g.before

-- what is unfolded has one value
pub unfolded-from_IsUnfolded : (stamp : ℕ) (near s : ℤ) → IsUnfolded stamp near s → s ≡ unfolded stamp near
unfolded-from_IsUnfolded stamp near s h =
    IsUnfolded-one_number stamp near s (unfolded stamp near) h (IsUnfolded-unfolded stamp near)

-- a timestamp's next tick after `near`, by differences that wrap at an era
pub StandsFor-wrapping : (stamp place : ℕ) (near : ℤ) → pos 0 ≤ℤ near → place ≡ unsigned_abs near % era
    → StandsFor stamp (near +ℤ pos (((stamp + (era - ticks_before_1970)) % era + (era - place)) % era))
StandsFor-wrapping stamp place near h e =
    let y = stamp + (era - ticks_before_1970) in
    let x = y % era + (era - place) in
    record {
      eras = pos (2 + unsigned_abs near / era) -ℤ pos (y / era + x / era);
      ticks_since_1900 = omega (arith, ints);
    }

-- the tick before the next one is an era earlier
pub StandsFor-era_earlier : (stamp : ℕ) (s : ℤ) → StandsFor stamp s → StandsFor stamp (s -ℤ pos era)
StandsFor-era_earlier stamp s h =
    record { eras = h.eras -ℤ pos 1; ticks_since_1900 = omega (arith, ints, h.ticks_since_1900) }

-- of all ticks that a timestamp stands for, the unfolded one is nearest
nearest : (stamp : ℕ) (near s t j k : ℤ) → pos stamp +ℤ j *ℤ pos era ≡ s +ℤ pos ticks_before_1970
    → pos stamp +ℤ k *ℤ pos era ≡ t +ℤ pos ticks_before_1970 → (near -ℤ pos half_era) ≤ℤ s
    → s <ℤ (near +ℤ pos half_era) → unsigned_abs (s -ℤ near) ≤ unsigned_abs (t -ℤ near)
nearest stamp near s t j k e f a b = omega (arith, ints)

pub unfolded_nearest : (stamp : ℕ) (near other : ℤ) → StandsFor stamp other
    → unsigned_abs (unfolded stamp near -ℤ near) ≤ unsigned_abs (other -ℤ near)
unfolded_nearest stamp near other g =
    let h = IsUnfolded-unfolded stamp near in
    nearest stamp near (unfolded stamp near) other h.stands_for.eras g.eras h.stands_for.ticks_since_1900
    g.ticks_since_1900 h.not_before h.before
