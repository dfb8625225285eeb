-- What the code divides, and what it multiplies before.
use Rattle.std.specs.Int.{div_ceil}
use Rattle.era_unfold.specs.Ratio.{IsCeiling}
use Rattle.cover_checker.proofs.Common.{◌≡◌, ℕ, ◌+◌, ◌*◌, ◌<◌, ◌≤◌, ◌∙◌, ap, arith, ints, nat_tests, rules, billion}

is_ceiling : (n m q : ℕ) → 0 < m → q ≡ div_ceil n m → IsCeiling n m q
is_ceiling n m q some e = grind (arith, ints, nat_tests)

pub ceiling_by_division : (rate distance q p d : ℕ) → rate ≡ p → distance ≡ d
    → q ≡ div_ceil (rate * distance) (billion + rate) → IsCeiling (p * d) (billion + p) q
ceiling_by_division rate distance q p d a b e =
    is_ceiling (p * d) (billion + p) q (omega arith)
    (e ∙ ap (λ (r : ℕ). div_ceil (r * distance) (billion + r)) a ∙ ap (λ (x : ℕ). div_ceil (p * x) (billion + p)) b)

pub one_ceiling : (n d v w : ℕ) → IsCeiling n d v → IsCeiling n d w → v ≡ w
one_ceiling n d v w h k = search rules

pub no_more_than : (p d q : ℕ) → IsCeiling (p * d) (billion + p) q → q ≤ d
no_more_than p d q is = is.least d (omega arith)
