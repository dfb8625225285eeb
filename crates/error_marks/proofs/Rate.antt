-- What a greater rate and weaker marks keep.
use Rattle.error_marks.proofs.Common.{◌≡◌, ℕ, ◌+◌, ◌-◌, ◌*◌, ◌<◌, ◌≤◌, ℤ, pos, negsuc, ◌-ℤ◌, ◌*ℤ◌, ◌≤ℤ◌, ◌↔◌, ⊎_elim, arith, cases_lt, ints, by_lt_z, mul-le-mul_left, mul-le-mul_right, billion, IsRate, AreCompatible, Mark, ≤ℤ_trans}
use Rattle.error_marks.proofs.MarkPair.{times-sub}
use Rattle.error_marks.proofs.Compatibility.{none_above, some_above, compatible_in_order}

-- n times an order
times_le : (n : ℕ) (a b : ℤ) → a ≤ℤ b → (pos n *ℤ a) ≤ℤ (pos n *ℤ b)
times_le n a b h = omega (arith, ints, none_above n (a -ℤ b) (omega (arith, ints)), times-sub n a b)

-- ---- a greater rate
pub falls_faster : (b p q x y : ℕ) → p ≤ q → q ≤ b → (b - p) * x ≤ p * y → (b - q) * x ≤ q * y
falls_faster b p q x y le most h = grind (arith, mul-le-mul_right)

more_room : (b p q x k : ℕ) → p ≤ q → (b + p) * x ≤ p * (x + k) → (b + q) * x ≤ q * (x + k)
more_room b p q x k le h = grind (arith, mul-le-mul_right)

nothing_to_rise : (b p x y : ℕ) → 0 < b → y < x → (b + p) * x ≤ p * y → ⊥
nothing_to_rise b p x y some lt h = grind (arith, mul-le-mul_left)

rises_faster : (b p q x y : ℕ) → 0 < b → p ≤ q → (b + p) * x ≤ p * y → (b + q) * x ≤ q * y
rises_faster b p q x y some le h = ⊎_elim
    (λ (lt : y < x). absurd (nothing_to_rise b p x y some lt h))
    (λ (room : x ≤ y).
    let whole : y ≡ x + (y - x) = omega arith in
    rw whole (more_room b p q x (y - x) le (rw (← whole) h)))
    (cases_lt y x)

-- the same of whole numbers, where the clock advances
falls_faster_signed : (b p q : ℕ) (x y : ℤ) → p ≤ q → q ≤ b → pos 0 ≤ℤ y →
    (pos (b - p) *ℤ x) ≤ℤ (pos p *ℤ y) → (pos (b - q) *ℤ x) ≤ℤ (pos q *ℤ y)
falls_faster_signed b p q (pos x) (pos y) le most on h =
    let naturals : (b - p) * x ≤ p * y = omega (arith, ints) in
    omega (arith, ints, falls_faster b p q x y le most naturals)
falls_faster_signed b p q (negsuc x) (pos y) le most on h = omega (arith, ints)
falls_faster_signed b p q x (negsuc y) le most on h = absurd (omega (arith, ints))

rises_faster_signed : (b p q : ℕ) (x y : ℤ) → 0 < b → p ≤ q → pos 0 ≤ℤ y →
    (pos (b + p) *ℤ x) ≤ℤ (pos p *ℤ y) → (pos (b + q) *ℤ x) ≤ℤ (pos q *ℤ y)
rises_faster_signed b p q (pos x) (pos y) some le on h =
    let naturals : (b + p) * x ≤ p * y = omega (arith, ints) in
    omega (arith, ints, rises_faster b p q x y some le naturals)
rises_faster_signed b p q (negsuc x) (pos y) some le on h = omega (arith, ints)
rises_faster_signed b p q x (negsuc y) some le on h = absurd (omega (arith, ints))

pub faster : (slow fast : ℕ) (low high : Mark) → slow ≤ fast → IsRate fast → AreCompatible slow low high →
    AreCompatible fast low high
faster slow fast low high le rate fits = record {
  falls = λ before. falls_faster_signed billion slow fast (low.error -ℤ high.error) (high.place -ℤ low.place) le
      (omega arith) (omega (arith, ints)) (fits.falls before);
  rises = λ behind. rises_faster_signed billion slow fast (low.error -ℤ high.error) (low.place -ℤ high.place)
      (omega arith) le (omega (arith, ints)) (fits.rises behind);
}

-- ---- no rate at all
zero_times : (z : ℤ) → (pos 0 *ℤ z) ≡ pos 0
zero_times (pos x) = omega (arith, ints)
zero_times (negsuc x) = omega (arith, ints)

from_none : (n : ℕ) (z x y : ℤ) → 0 < n → (pos n *ℤ (x -ℤ y)) ≤ℤ (pos 0 *ℤ z) → x ≤ℤ y
from_none n z x y some h = grind (arith, some_above, zero_times)

pub without_drift : (low high : Mark) → AreCompatible 0 low high ↔ (low.error ≤ℤ high.error)
without_drift low high = grind (arith, by_lt_z, from_none, billion, compatible_in_order)

-- ---- weaker marks

weaker_falls : (n : ℕ) (x y z : ℤ) → x ≤ℤ y → (pos n *ℤ y) ≤ℤ z → (pos n *ℤ x) ≤ℤ z
weaker_falls n x y z h k = ≤ℤ_trans (pos n *ℤ x) (pos n *ℤ y) z (times_le n x y h) k

weaker : (ppb : ℕ) (low high : Mark) (x y : ℤ) → (x -ℤ y) ≤ℤ (low.error -ℤ high.error) → AreCompatible ppb low high →
    AreCompatible ppb (record low { error = x }) (record high { error = y })
weaker ppb low high x y le fits = grind (arith, weaker_falls, billion)

pub lower : (ppb : ℕ) (low high : Mark) (error : ℤ) → error ≤ℤ low.error → AreCompatible ppb low high →
    AreCompatible ppb (record low { error = error }) high
lower ppb low high error le = weaker ppb low high error high.error (omega (arith, ints))

pub higher : (ppb : ℕ) (low high : Mark) (error : ℤ) → high.error ≤ℤ error → AreCompatible ppb low high →
    AreCompatible ppb low (record high { error = error })
higher ppb low high error le = weaker ppb low high low.error error (omega (arith, ints))

pub ruleset weaker_marks = (lower, higher)
