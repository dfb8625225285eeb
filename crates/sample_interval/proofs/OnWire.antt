-- Offset, delay, and halves of whole numbers.
use Rattle.std.proofs.lemmas.Bool.Decides.{nat_tests}
use Rattle.sample_interval.proofs.Common.{◌≡◌, ℕ, ◌*◌, ℤ, pos, negsuc, ◌+ℤ◌, ◌-ℤ◌, ◌*ℤ◌, ◌≤ℤ◌, refl, arith, ints, times_le, times-add, times-times, IsSignedFloor, IsSignedCeiling, request_start, request_end, reply_start, reply_end, Exchange}
use Rattle.sample_interval.specs.OnWire.{offset_doubled, delay_of, half_down, half_up, offset_from, offset_to}
use Rattle.sample_interval.specs.OnWire.{least_offset_doubled, greatest_offset_doubled}

pub IsSignedFloor-half_down : (z : ℤ) → IsSignedFloor (half_down z) z 2
IsSignedFloor-half_down (pos a) = (omega (arith, ints), λ whole below. omega (arith, ints))
IsSignedFloor-half_down (negsuc a) = (omega (arith, ints), λ whole below. omega (arith, ints))

pub IsSignedCeiling-half_up : (z : ℤ) → IsSignedCeiling (half_up z) z 2
IsSignedCeiling-half_up z = grind (arith, ints, nat_tests)

-- four products in one sum
four : (e t2 t3 a b : ℤ) (n : ℕ) → t2 +ℤ t3 ≡ e +ℤ (a +ℤ b) →
    (t2 *ℤ pos n) +ℤ (t3 *ℤ pos n) ≡ (e *ℤ pos n) +ℤ ((a *ℤ pos n) +ℤ (b *ℤ pos n))
four e t2 t3 a b n h =
    omega (
      arith,
      ints,
      times-add (t2 +ℤ t3) t2 t3 n refl,
      times-add (t2 +ℤ t3) e (a +ℤ b) n h,
      times-add (a +ℤ b) a b
          n refl,
    )

-- twice the offset, n times over, lies between n times its least and its greatest
offset_low : (t1 t2 t3 t4 last1 last4 : ℤ) (n : ℕ) → t1 ≤ℤ (last1 *ℤ pos n) → t4 ≤ℤ (last4 *ℤ pos n) →
    (offset_doubled last1 t2 t3 last4 *ℤ pos n) ≤ℤ offset_doubled t1 (t2 *ℤ pos n) (t3 *ℤ pos n) t4
offset_low t1 t2 t3 t4 last1 last4 n a b =
    omega (arith, ints, four (offset_doubled last1 t2 t3 last4) t2 t3 last1 last4 n (omega (arith, ints)))

offset_high : (t1 t2 t3 t4 first1 first4 : ℤ) (n : ℕ) → (first1 *ℤ pos n) ≤ℤ t1 → (first4 *ℤ pos n) ≤ℤ t4 →
    offset_doubled t1 (t2 *ℤ pos n) (t3 *ℤ pos n) t4 ≤ℤ (offset_doubled first1 t2 t3 first4 *ℤ pos n)
offset_high t1 t2 t3 t4 first1 first4 n a b =
    omega (arith, ints, four (offset_doubled first1 t2 t3 first4) t2 t3 first1 first4 n (omega (arith, ints)))

pub offset_from_below : (x : Exchange) (allowance : ℤ) (n : ℕ) (t1 t4 : ℤ) → t1 ≤ℤ (request_end x allowance *ℤ pos n) →
    t4 ≤ℤ (reply_end x allowance *ℤ pos n) →
    (offset_from x allowance *ℤ pos (2 * n)) ≤ℤ offset_doubled t1 (x.t2 *ℤ pos n) (x.t3 *ℤ pos n) t4
offset_from_below x allowance n t1 t4 a b =
    let least = least_offset_doubled x allowance in
    omega (
      arith,
      ints,
      times-times (half_down least) 2 n,
      times_le (half_down least *ℤ pos 2) least n (IsSignedFloor-half_down least).0,
      offset_low t1 x.t2 x.t3 t4 (request_end x allowance) (reply_end x allowance) n a b,
    )

pub offset_to_above : (x : Exchange) (allowance : ℤ) (n : ℕ) (t1 t4 : ℤ) → (request_start x allowance *ℤ pos n) ≤ℤ t1 →
    (reply_start x allowance *ℤ pos n) ≤ℤ t4 →
    offset_doubled t1 (x.t2 *ℤ pos n) (x.t3 *ℤ pos n) t4 ≤ℤ (offset_to x allowance *ℤ pos (2 * n))
offset_to_above x allowance n t1 t4 a b =
    let greatest = greatest_offset_doubled x allowance in
    omega (
      arith,
      ints,
      times-times (half_up greatest) 2 n,
      times_le greatest (half_up greatest *ℤ pos 2) n (IsSignedCeiling-half_up greatest).0,
      offset_high t1 x.t2 x.t3 t4 (request_start x allowance) (reply_start x allowance) n a b,
    )

-- the delay, n times over, lies between n times its least and its greatest
pub delay_low : (t1 t2 t3 t4 first last : ℤ) (n : ℕ) → t1 ≤ℤ (last *ℤ pos n) → (first *ℤ pos n) ≤ℤ t4 →
    (delay_of last t2 t3 first *ℤ pos n) ≤ℤ delay_of t1 (t2 *ℤ pos n) (t3 *ℤ pos n) t4
delay_low t1 t2 t3 t4 first last n a b =
    omega (arith, ints, four (delay_of last t2 t3 first) first t2 last t3 n (omega (arith, ints)))

pub delay_high : (t1 t2 t3 t4 first last : ℤ) (n : ℕ) → (first *ℤ pos n) ≤ℤ t1 → t4 ≤ℤ (last *ℤ pos n) →
    delay_of t1 (t2 *ℤ pos n) (t3 *ℤ pos n) t4 ≤ℤ (delay_of first t2 t3 last *ℤ pos n)
delay_high t1 t2 t3 t4 first last n a b =
    omega (arith, ints, four (delay_of first t2 t3 last) last t2 first t3 n (omega (arith, ints)))

pub offset_doubled-is : (r t1 t2 t3 t4 : ℤ) → r ≡ (t2 -ℤ t1) +ℤ (t3 -ℤ t4) → r ≡ offset_doubled t1 t2 t3 t4
offset_doubled-is r t1 t2 t3 t4 h = h

pub delay_of-is : (r t1 t2 t3 t4 : ℤ) → r ≡ (t4 -ℤ t1) -ℤ (t3 -ℤ t2) → r ≡ delay_of t1 t2 t3 t4
delay_of-is r t1 t2 t3 t4 h = h

pub ruleset every_choice = (offset_from_below, offset_to_above, delay_low, delay_high)
