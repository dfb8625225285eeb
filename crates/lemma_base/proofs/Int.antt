-- Whole numbers with a sign, and what 128 bits hold of them.
use Rattle.std.proofs.Common.{◌≡◌, ◌^◌, ◌<◌, ◌≤◌, ℤ, ◌-ℤ◌, ◌≤ℤ◌, ◌<ℤ◌, unsigned_abs, int_le, int_lt, to_z, of_z, true, false, arith}
use Rattle.std.proofs.lemmas.Int.{ints, clamps, to_z-of_z, fits_signed_from_abs}
use Rattle.std.specs.Int.{int_max}
use mir.Syntax.{w128}

-- ---- order

pub ≤ℤ_trans : (a b c : ℤ) → a ≤ℤ b → b ≤ℤ c → a ≤ℤ c
≤ℤ_trans a b c p q = omega (arith, ints)

pub ≤ℤ_trans_twice : (a b c d : ℤ) → a ≤ℤ b → b ≤ℤ c → c ≤ℤ d → a ≤ℤ d
≤ℤ_trans_twice a b c d p q r = omega (arith, ints)

pub ≤ℤ-<ℤ_trans : (a b c : ℤ) → a ≤ℤ b → b <ℤ c → a <ℤ c
≤ℤ-<ℤ_trans a b c p q = omega (arith, ints)

pub ≤ℤ_antisymm : (a b : ℤ) → a ≤ℤ b → b ≤ℤ a → a ≡ b
≤ℤ_antisymm a b p q = omega (arith, ints)

pub ≤ℤ-from_equal : (a b : ℤ) → a ≡ b → a ≤ℤ b
≤ℤ-from_equal a b e = omega (arith, ints)

pub ≤ℤ-from_lt : (a b : ℤ) → a <ℤ b → a ≤ℤ b
≤ℤ-from_lt a b h = omega (arith, ints)

pub ≤ℤ-sub : (a b c : ℤ) → a ≤ℤ b → (a -ℤ c) ≤ℤ (b -ℤ c)
≤ℤ-sub a b c h = omega (arith, ints)

pub int_max-least : (a b c : ℤ) → a ≤ℤ c → b ≤ℤ c → int_max a b ≤ℤ c
int_max-least a b c p q = omega (arith, ints, clamps)

-- ---- its tests

pub int_le-true : (a b : ℤ) → int_le a b ≡ true → a ≤ℤ b
int_le-true a b e = grind (arith, ints)

pub le-int_le : (a b : ℤ) → a ≤ℤ b → int_le a b ≡ true
le-int_le a b h = grind (arith, ints)

pub int_lt-true : (a b : ℤ) → int_lt a b ≡ true → a <ℤ b
int_lt-true a b e = grind (arith, ints)

pub int_lt-false : (a b : ℤ) → int_lt a b ≡ false → b ≤ℤ a
int_lt-false a b e = grind (arith, ints)

-- ---- numbers that 128 bits keep as they are

pub w128_keeps : (a : ℤ) → unsigned_abs a < 2 ^ 127 → to_z w128 (of_z w128 a) ≡ a
w128_keeps a h = to_z-of_z w128 a (fits_signed_from_abs w128 a h)

-- a difference too
pub w128_keeps_difference : (a b : ℤ) → unsigned_abs a ≤ 2 ^ 100 → unsigned_abs b ≤ 2 ^ 100 →
    to_z w128 (of_z w128 (to_z w128 (of_z w128 a) -ℤ to_z w128 (of_z w128 b))) ≡ a -ℤ b
w128_keeps_difference a b p q =
    rw (w128_keeps a (omega arith), w128_keeps b (omega arith)) (w128_keeps (a -ℤ b) (omega (arith, ints)))
