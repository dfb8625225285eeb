-- How large a precision in ticks and a root distance are.
use Rattle.std.proofs.Common.{◌≡◌, ℕ, zero, suc, ◌+◌, ◌-◌, ◌*◌, ◌<◌, ◌≤◌, ◌^◌, refl, ap, ◌∙◌, arith}
use Rattle.std.specs.Prelude.{ℤ, pos, negsuc, ◌+ℤ◌, ◌≤ℤ◌, ◌<ℤ◌, Some, None, IfSome, int_lt, if◌then◌else◌}
use Rattle.std.proofs.Math.Nat.{pow-suc, pow-le-pow_right}
use Rattle.std.proofs.lemmas.Int.{ints}
use Rattle.std.proofs.lemmas.Nat.{pow_pos}
use Rattle.ntp_packet.specs.Header.{precision_ticks_of}
use Rattle.ntp_packet.proofs.Fields.{field_lt}

-- the next power of two
pow-next : (a b : ℕ) → a ≡ suc b → 2 ^ a ≡ 2 * 2 ^ b
pow-next a b e = rw e (omega (arith, pow-suc 2 b))

pub precision_doubles : (precision : ℤ) → negsuc 31 ≤ℤ precision →
    precision_ticks_of (precision +ℤ pos 1) ≡ 2 * precision_ticks_of precision
precision_doubles (pos p) h = pow-next (32 + (p + 1)) (32 + p) (omega arith)
precision_doubles (negsuc zero) h = refl
precision_doubles (negsuc (suc n)) h =
    let next : negsuc (suc n) +ℤ pos 1 ≡ negsuc n = omega (arith, ints) in
    ap precision_ticks_of next ∙ pow-next (31 - n) (31 - suc n) (omega (arith, ints))

pub precision_ticks_of-least : (precision : ℤ) → 1 ≤ precision_ticks_of precision
precision_ticks_of-least (pos p) = pow_pos (32 + p)
precision_ticks_of-least (negsuc n) = pow_pos (31 - n)

pub precision_ticks_of-greatest : (precision : ℤ) → precision ≤ℤ pos 16 → precision_ticks_of precision ≤ 2 ^ 48
precision_ticks_of-greatest (pos p) h = let k : 32 + p ≤ 48 = omega (arith, ints) in pow-le-pow_right (omega arith) k
precision_ticks_of-greatest (negsuc n) h = let k : 31 - n ≤ 48 = omega arith in pow-le-pow_right (omega arith) k

-- a root distance, by its parts
pub distance-least : (delay dispersion : ℕ) (precision : ℤ) →
    IfSome (if int_lt (pos 16) precision then None else Some (pos
    (delay * 32768 + dispersion * 65536 + precision_ticks_of precision))) (λ ticks. pos 1 ≤ℤ ticks)
distance-least delay dispersion precision = grind (arith, ints, precision_ticks_of-least precision)

pub distance-greatest : (delay dispersion : ℕ) (precision : ℤ) → delay < 2 ^ 32 → dispersion < 2 ^ 32 →
    IfSome (if int_lt (pos 16) precision then None else Some (pos
    (delay * 32768 + dispersion * 65536 + precision_ticks_of precision))) (λ ticks. ticks <ℤ pos (2 ^ 50))
distance-greatest delay dispersion precision d e = grind (arith, ints, precision_ticks_of-greatest precision)

pub ruleset distance_range = (distance-least, distance-greatest, field_lt)
