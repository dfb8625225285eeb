-- The ends of a range in whole nanoseconds, rounded outwards.
use Rattle.line_writer.proofs.Common.{◌≡◌, ℕ, zero, suc, ℤ, pos, negsuc, neg_ℤ, ◌*ℤ◌, ◌≤ℤ◌, ◌*◌, ◌^◌, ◌<◌, ◌≤◌, arith, refl, IsFloor, IsCeiling, IsSignedFloor, IsSignedCeiling, IsFloor-floor_of, IsCeiling-ceiling_of, IsSignedFloor-IsFloor, IsSignedCeiling-IsCeiling, nanosecond_above, nanosecond_below}
use Rattle.std.proofs.lemmas.Int.{ints}
use Rattle.std.proofs.Math.Nat.{zero-mul}

times : (q d : ℕ) → neg_ℤ (pos q) *ℤ pos d ≡ neg_ℤ (pos (q * d))
times zero d = rw zero-mul refl
times (suc q) d = refl

negated : (a b : ℕ) → b ≤ a → neg_ℤ (pos a) ≤ℤ neg_ℤ (pos b)
negated a b h = omega (arith, ints)

-- a ratio below zero is rounded as the ratio above zero, to the other side
below_zero : (m d q : ℕ) → 0 < d → IsCeiling m d q → (whole : ℤ) →
    (whole *ℤ pos d) ≤ℤ neg_ℤ (pos m) → whole ≤ℤ neg_ℤ (pos q)
below_zero m d q some is (pos zero) h =
    let least = is.least 0 (omega (arith, ints)) in
    omega (arith, ints)
below_zero m d q some is (pos (suc w)) h = absurd (omega (arith, ints))
below_zero m d q some is (negsuc w) h = grind arith

floor_below_zero : (m d q : ℕ) → 0 < d → IsCeiling m d q → IsSignedFloor (neg_ℤ (pos q)) (neg_ℤ (pos m)) d
floor_below_zero m d q some is = (rw times (negated (q * d) m is.not_below), below_zero m d q some is)

above_zero : (m d q : ℕ) → 0 < d → IsFloor m d q → (whole : ℤ) →
    neg_ℤ (pos m) ≤ℤ (whole *ℤ pos d) → neg_ℤ (pos q) ≤ℤ whole
above_zero m d q some is (pos w) h = omega (arith, ints)
above_zero m d q some is (negsuc w) h = grind arith

ceiling_below_zero : (m d q : ℕ) → 0 < d → IsFloor m d q → IsSignedCeiling (neg_ℤ (pos q)) (neg_ℤ (pos m)) d
ceiling_below_zero m d q some is = (rw times (negated m (q * d) is.not_above), above_zero m d q some is)

pub low_end : (tick : ℤ) → IsSignedFloor (nanosecond_below tick) (tick *ℤ pos 1000000000) (2 ^ 32)
low_end (pos n) = IsSignedFloor-IsFloor _ _ _ (IsFloor-floor_of (n * 1000000000) (2 ^ 32) (omega arith))
low_end (negsuc n) =
    floor_below_zero (suc n * 1000000000) (2 ^ 32) _ (omega arith)
    (IsCeiling-ceiling_of (suc n * 1000000000) (2 ^ 32) (omega arith))

pub high_end : (tick : ℤ) → IsSignedCeiling (nanosecond_above tick) (tick *ℤ pos 1000000000) (2 ^ 32)
high_end (pos n) =
    IsSignedCeiling-IsCeiling _ _ _ (omega arith) (IsCeiling-ceiling_of (n * 1000000000) (2 ^ 32) (omega arith))
high_end (negsuc n) =
    ceiling_below_zero (suc n * 1000000000) (2 ^ 32) _ (omega arith)
    (IsFloor-floor_of (suc n * 1000000000) (2 ^ 32) (omega arith))
