-- Whole numbers of ticks times a natural number, and their order.
use Rattle.feasibility.proofs.Common.{◌≡◌, ℕ, ◌*◌, ◌≤◌, ℤ, pos, negsuc, ◌+ℤ◌, ◌-ℤ◌, ◌*ℤ◌, ◌≤ℤ◌, refl, arith, ints, times-add}

-- n times a difference
pub times-sub : (c a b : ℤ) (n : ℕ) → c ≡ a -ℤ b → (c *ℤ pos n) ≡ (a *ℤ pos n) -ℤ (b *ℤ pos n)
times-sub c a b n e =
    let back : a ≡ c +ℤ b = omega (arith, ints) in
    omega (arith, ints, times-add a c b n back)

pub scaled_beyond : (a b : ℤ) (d n : ℕ) → b ≡ a +ℤ pos d → (b *ℤ pos n) ≡ (a *ℤ pos n) +ℤ pos (d * n)
scaled_beyond a b d n e = times-add b a (pos d) n e

-- ---- a multiple that is at most another

pub product_le : (k p x d : ℕ) (z w : ℤ) → z ≡ pos x → w ≡ pos d → k * x ≤ p * d → (pos k *ℤ z) ≤ℤ (pos p *ℤ w)
product_le k p x d z w at_x at_d h = rw (at_x, at_d) (omega (arith, ints))

pub product_from : (k p x d : ℕ) (z w : ℤ) → z ≡ pos x → w ≡ pos d → (pos k *ℤ z) ≤ℤ (pos p *ℤ w) → k * x ≤ p * d
product_from k p x d z w at_x at_d h = omega (arith, ints, rw (at_x, at_d) at h)

-- it is enough to look where the first number isn't negative
pub bounded : (k p d : ℕ) (z w : ℤ) → w ≡ pos d → ((x : ℕ) → z ≡ pos x → k * x ≤ p * d) → (pos k *ℤ z) ≤ℤ (pos p *ℤ w)
bounded k p d (pos x) w e h = product_le k p x d (pos x) w refl e (h x refl)
bounded k p d (negsuc x) w e h = rw e (omega (arith, ints))
