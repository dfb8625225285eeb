-- How near the ends of a hull are: over plain numbers.
use Rattle.std.proofs.Common.{◌≡◌, ℕ, zero, suc, ◌+◌, ◌*◌, ◌<◌, ◌≤◌, ℤ, pos, ◌+ℤ◌, ◌-ℤ◌, ◌*ℤ◌, ◌≤ℤ◌, ◌<ℤ◌, ⊎_elim, refl, arith}
use Rattle.std.proofs.Math.Nat.{mul-le-mul_left, mul-le-mul_right}
use Rattle.std.proofs.lemmas.Bool.{cases_lt}
use Rattle.std.proofs.lemmas.Int.{ints}
use Rattle.era_unfold.specs.Ratio.{IsCeiling}
use Rattle.intersection.specs.Fineness.{times-add, times_le}
use Rattle.feasibility.proofs.Scaling.{bounded}

-- ---- ratios that are rounded up

module _ (d : ℕ) where
  -- such a number is less than one more than the ratio
  pub IsCeiling-lt : (n q : ℕ) → 0 < d → IsCeiling n d q → q * d < n + d
  IsCeiling-lt n zero some is = omega arith
  IsCeiling-lt n (suc q) some is = ⊎_elim
      (λ (less : q * d < n). omega arith)
      (λ (enough : n ≤ q * d). absurd (let least = is.least q enough in omega arith))
      (cases_lt (q * d) n)

  pub IsCeiling-mono : (n m q r : ℕ) → n ≤ m → IsCeiling n d q → IsCeiling m d r → q ≤ r
  IsCeiling-mono n m q r le is is' = is.least r (omega (arith, is'.not_below))

  pub IsCeiling-sum : (n m q r t : ℕ) → IsCeiling n d q → IsCeiling m d r → IsCeiling (n + m) d t → t ≤ q + r
  IsCeiling-sum n m q r t is is' both = both.least (q + r) (omega (arith, is.not_below, is'.not_below))

-- of a greater number of parts it is no more
pub IsCeiling-finer : (n d e q r : ℕ) → d ≤ e → IsCeiling n d q → IsCeiling n e r → r ≤ q
IsCeiling-finer n d e q r le is is' = is'.least q (omega (arith, is.not_below, mul-le-mul_left q le))

-- ---- a low mark e, moved down by w and c

-- n times c is less than m and n
pub left_is_near : (n w c m : ℕ) (e lo : ℤ) → e ≤ℤ ((lo +ℤ pos w) +ℤ pos c) → n * c < m + n
    → ((e *ℤ pos n) -ℤ pos m) <ℤ (((lo +ℤ pos 1) +ℤ pos w) *ℤ pos n)
left_is_near n w c m e lo near less =
    omega (
      arith,
      ints,
      times_le e ((lo +ℤ pos w) +ℤ pos c) n near,
      times-add ((lo +ℤ pos w) +ℤ pos c) (lo +ℤ pos w) (pos c) n refl,
      times-add ((lo +ℤ pos 1) +ℤ pos w) (lo +ℤ pos w) (pos 1) n (omega (arith, ints)),
    )

-- ---- what is less than a ratio rounded up

module _ (g p d c : ℕ) where
  pub below_ceiling : (z gap : ℤ) → gap ≡ pos d → (z +ℤ pos 1) ≤ℤ pos c → c * g < p * d + g
      → (pos g *ℤ z) ≤ℤ (pos p *ℤ gap)
  below_ceiling z gap far near less =
      bounded g p d z gap far
      (λ x is.
      let more : x + 1 ≤ c = omega (arith, ints) in
      omega (arith, mul-le-mul_right g more))
