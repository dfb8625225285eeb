-- Whole numbers of ticks as whole numbers of 1/n tick: multiplied by n they keep their order and
-- their sums.
use Rattle.std.specs.Prelude.{◌≡◌, ℕ, suc, ◌+◌, ◌*◌, ◌≤◌, ℤ, pos, negsuc, ◌+ℤ◌, ◌-ℤ◌, ◌*ℤ◌, ◌≤ℤ◌}
use Rattle.std.proofs.Common.{ap, arith}
use borrow.Author.Differences.{up, down}
use Rattle.std.proofs.lemmas.Int.{ints}
use Rattle.std.proofs.Math.Nat.{mul-le-mul_right}

-- n times an order
pub times_le : (a b : ℤ) (n : ℕ) → a ≤ℤ b → (a *ℤ pos n) ≤ℤ (b *ℤ pos n)
times_le (pos x) (pos y) n h =
    let le : x ≤ y = omega (arith, ints) in
    omega (arith, ints, mul-le-mul_right n le)
times_le (pos x) (negsuc y) n h = absurd (omega (arith, ints))
times_le (negsuc x) (pos y) n h = omega (arith, ints)
times_le (negsuc x) (negsuc y) n h =
    let le : suc y ≤ suc x = omega (arith, ints) in
    omega (arith, ints, mul-le-mul_right n le)

-- n times what is above zero, less n times what is below
times-parts : (a : ℤ) (n : ℕ) → (a *ℤ pos n) ≡ pos (up a * n) -ℤ pos (down a * n)
times-parts (pos x) n = omega (arith, ints)
times-parts (negsuc x) n = omega (arith, ints)

-- n times a sum
pub times-add : (c a b : ℤ) (n : ℕ) → c ≡ a +ℤ b →
    (c *ℤ pos n) ≡ (a *ℤ pos n) +ℤ (b *ℤ pos n)
times-add c a b n e =
    let parts : up c + down a + down b ≡ down c + up a + up b = omega (arith, ints) in
    let scaled : (up c + down a + down b) * n ≡ (down c + up a + up b) * n =
    ap (λ (x : ℕ). x * n) parts in
    rw (times-parts c n, times-parts a n, times-parts b n) (omega (arith, ints))

-- m n times, and n times m times
pub times-times : (a : ℤ) (m n : ℕ) → (a *ℤ pos (m * n)) ≡ ((a *ℤ pos m) *ℤ pos n)
times-times (pos x) m n = omega (arith, ints)
times-times (negsuc x) m n =
    let once = times-parts (negsuc x) (m * n) in
    let inner = times-parts (negsuc x) m in
    let below : down (negsuc x *ℤ pos m) ≡ suc x * m = omega (arith, ints) in
    let above : up (negsuc x *ℤ pos m) ≡ 0 = omega (arith, ints) in
    let outer = times-parts (negsuc x *ℤ pos m) n in
    let scaled : down (negsuc x *ℤ pos m) * n ≡ suc x * m * n = ap (λ (k : ℕ). k * n) below in
    let none : up (negsuc x *ℤ pos m) * n ≡ 0 = rw above (omega arith) in
    omega (arith, ints)
