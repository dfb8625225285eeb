-- Whole numbers from 0 on.
use Rattle.std.proofs.Common.{◌≡◌, ℕ, ◌+◌, ◌<◌, Bool, true, ◌&&◌, ◌⊎◌, arith}
use Rattle.std.proofs.lemmas.Bool.Decides.{nat_tests}
use Rattle.std.specs.Prelude.{◌==◌}

pub not_lt_zero : (k : ℕ) → k < 0 → ⊥
not_lt_zero k h = omega arith

pub lt_next_cases : (k n : ℕ) → k < n + 1 → (k < n) ⊎ (k ≡ n)
lt_next_cases k n h = grind arith

-- a number is the other, and a test passes
pub and-from_equal : (a b : ℕ) (t : Bool) → a ≡ b → t ≡ true → ((a == b) && t) ≡ true
and-from_equal a b t same passes = rw (same, passes) (grind (arith, nat_tests))
