-- A ratio of two whole numbers, rounded to a whole number.
--
-- The floor of n / d is the greatest whole number that is not above the ratio, and its ceiling the
-- least that is not below it, for d above 0. A whole number is compared with n / d by comparing
-- d times that number with n, so that no fraction is needed. Nothing in this project is rounded to
-- the nearest number.
use Rattle.std.specs.Prelude.{ℕ, ◌+◌, ◌-◌, ◌*◌, ◌/◌, ◌≤◌, ℤ, pos, ◌*ℤ◌, ◌≤ℤ◌}

-- q is the greatest natural number that is not above n / d
pub record IsFloor (n d q : ℕ) : Type 0 where
  pub not_above : q * d ≤ n
  pub greatest : (m : ℕ) → m * d ≤ n → m ≤ q

-- q is the least natural number that is not below n / d
pub record IsCeiling (n d q : ℕ) : Type 0 where
  pub not_below : n ≤ q * d
  pub least : (m : ℕ) → n ≤ m * d → q ≤ m

-- the same of e / n, in which e may be below zero: the greatest whole number not above it
abbrev pub IsSignedFloor : ℤ → ℤ → ℕ → Type 0
IsSignedFloor floor e n =
    ((floor *ℤ pos n) ≤ℤ e) × ((whole : ℤ) → (whole *ℤ pos n) ≤ℤ e → whole ≤ℤ floor)

-- and the least whole number not below it
abbrev pub IsSignedCeiling : ℤ → ℤ → ℕ → Type 0
IsSignedCeiling ceiling e n =
    (e ≤ℤ (ceiling *ℤ pos n)) × ((whole : ℤ) → e ≤ℤ (whole *ℤ pos n) → ceiling ≤ℤ whole)

-- the floor of n / d, for d above 0
unfoldable pub floor_of : ℕ → ℕ → ℕ
floor_of n d = n / d

-- the ceiling of n / d, for d above 0
unfoldable pub ceiling_of : ℕ → ℕ → ℕ
ceiling_of n d = (n + (d - 1)) / d
