-- The floor and the ceiling of a ratio.
use Rattle.std.proofs.Common.{◌≡◌, ℕ, suc, ℤ, pos, negsuc, ◌*ℤ◌, ◌≤ℤ◌, ◌+◌, ◌-◌, ◌*◌, ◌/◌, ◌<◌, ◌≤◌, add_comm, ap, ◌∙◌, ⊎_elim, arith}
use Rattle.std.proofs.Math.Nat.{add-mul-div_right, div-mul-le_self, mul-le-mul_right}
use Rattle.std.proofs.lemmas.Bool.{cases_lt}
use Rattle.std.proofs.lemmas.Nat.{div-add-mod', mod_below, le-div, div_below}
use Rattle.std.proofs.lemmas.Int.{ints}
use Rattle.era_unfold.specs.Ratio.{IsFloor, IsCeiling, IsSignedFloor, IsSignedCeiling, floor_of, ceiling_of}

pub IsFloor-floor_of : (n d : ℕ) → 0 < d → IsFloor n d (floor_of n d)
unfolding floor_of
IsFloor-floor_of n d h = record {
  not_above = div-mul-le_self n d;
  greatest = λ m le. le-div m n d h le;
}

-- the least number that is not below, for a quotient and its remainder
not_below : (n d q r : ℕ) → q * d + r ≡ n + (d - 1) → r < d → n ≤ q * d
not_below n d q r e h = omega arith

pub IsCeiling-ceiling_of : (n d : ℕ) → 0 < d → IsCeiling n d (ceiling_of n d)
unfolding ceiling_of
IsCeiling-ceiling_of n d h = record {
  not_below = not_below n d _ _ (div-add-mod' (n + (d - 1)) d) (mod_below (n + (d - 1)) d h);
  least = λ m le.
      let past : n + (d - 1) < (m + 1) * d = omega arith in
      let below : (n + (d - 1)) / d < m + 1 = div_below (n + (d - 1)) d (m + 1) h past in
      omega arith;
}

-- whole numbers below zero are no nearer
greatest_of_all : (n d q : ℕ) → IsFloor n d q → (whole : ℤ) → (whole *ℤ pos d) ≤ℤ pos n → whole ≤ℤ pos q
greatest_of_all n d q is (pos m) h = let most = is.greatest m (omega (arith, ints)) in omega (arith, ints)
greatest_of_all n d q is (negsuc m) h = omega (arith, ints)

least_of_all : (n d q : ℕ) → 0 < d → IsCeiling n d q → (whole : ℤ) → pos n ≤ℤ (whole *ℤ pos d) → pos q ≤ℤ whole
least_of_all n d q some is (pos m) h = let least = is.least m (omega (arith, ints)) in omega (arith, ints)
least_of_all n d q some is (negsuc m) h =
    let one : 1 ≤ suc m = omega arith in
    absurd (omega (arith, ints, mul-le-mul_right d one))

pub IsSignedFloor-IsFloor : (n d q : ℕ) → IsFloor n d q → IsSignedFloor (pos q) (pos n) d
IsSignedFloor-IsFloor n d q is = (omega (arith, ints, is.not_above), greatest_of_all n d q is)

pub IsSignedCeiling-IsCeiling : (n d q : ℕ) → 0 < d → IsCeiling n d q → IsSignedCeiling (pos q) (pos n) d
IsSignedCeiling-IsCeiling n d q some is = (omega (arith, ints, is.not_below), least_of_all n d q some is)

-- whole units come out of a ratio
pub div-whole_and_part : (a b d t : ℕ) → 0 < d → (a * d + b) * t / d ≡ a * t + b * t / d
div-whole_and_part a b d t h =
    let parts : (a * d + b) * t ≡ b * t + a * t * d = omega arith in
    ap (λ x. x / d) parts ∙ add-mul-div_right (b * t) (a * t) h ∙ add_comm (b * t / d) (a * t)

pub div-whole_and_part_up : (a b d t : ℕ) → 0 < d → ((a * d + b) * t + (d - 1)) / d ≡ a * t + (b * t + (d - 1)) / d
div-whole_and_part_up a b d t h =
    let parts : (a * d + b) * t + (d - 1) ≡ b * t + (d - 1) + a * t * d = omega arith in
    ap (λ x. x / d) parts ∙ add-mul-div_right (b * t + (d - 1)) (a * t) h ∙ add_comm ((b * t + (d - 1)) / d) (a * t)

-- an order of products by one number
pub lt_of_products : (a b d : ℕ) → a * d < b * d → a < b
lt_of_products a b d h = ⊎_elim (λ l. l) (λ l. absurd (omega (arith, mul-le-mul_right d l))) (cases_lt a b)

pub le_of_products : (a b d : ℕ) → 0 < d → a * d ≤ b * d → a ≤ b
le_of_products a b d some h =
    let next : a * d < (b + 1) * d = omega arith in
    let below : a < b + 1 = lt_of_products a (b + 1) d next in
    omega arith

pub ruleset signed_rounding = (IsSignedFloor-IsFloor, IsSignedCeiling-IsCeiling)
