-- The number that digits say.
use Rattle.reading_time.proofs.Common.{ℕ, ◌+◌, ◌-◌, ◌*◌, ◌^◌, ◌<◌, ◌≤◌, arith, pow-le-pow_right, pow_more}

-- a number of few digits
pub few_digits : (i : ℕ) → i < 10 → 10 ^ i ≤ 1000000000
few_digits i few = pow-le-pow_right {n = 10} (omega arith) {i = i} {j = 9} (omega arith)

-- one more digit
pub one_more : (n d i : ℕ) → n < 10 ^ i → d ≤ 57 → n * 10 + (d - 48) < 10 ^ (i + 1)
one_more n d i small digit = omega (arith, pow_more 10 i)
