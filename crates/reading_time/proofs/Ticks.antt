-- The ticks of a reading.
use Rattle.reading_time.proofs.Common.{◌≡◌, ℕ, ◌+◌, ◌-◌, ◌*◌, ◌/◌, ◌<◌, ◌≤◌, ◌∙◌, List, length, ap, arith, add_assoc, one-le-pow, ceiling_of, floor_of, IsCeiling, IsFloor, ticks_per_second, begin_of, end_of, number_of, parts_of}
use Rattle.era_unfold.proofs.Rounding.{IsFloor-floor_of, IsCeiling-ceiling_of, div-whole_and_part, div-whole_and_part_up, le_of_products}

pub parts_above_zero : (digits : List ℕ) → 0 < parts_of digits
parts_above_zero digits = one-le-pow (length digits) 10 (omega arith)

-- the second and its part, apart
pub begin_of-parts : (second : ℕ) (digits : List ℕ)
    → begin_of second digits ≡ second * ticks_per_second + number_of digits * ticks_per_second / parts_of digits
unfolding begin_of floor_of
begin_of-parts second digits =
    div-whole_and_part second (number_of digits) (parts_of digits) ticks_per_second (parts_above_zero digits)

pub end_of-parts : (second : ℕ) (digits : List ℕ) → end_of second digits
    ≡ second * ticks_per_second + ((number_of digits + 1) * ticks_per_second + (parts_of digits - 1)) / parts_of digits
unfolding end_of ceiling_of
end_of-parts second digits =
    let d = parts_of digits in
    ap (λ x. (x * ticks_per_second + (d - 1)) / d) (add_assoc (second * d) (number_of digits) 1)
    ∙ div-whole_and_part_up second (number_of digits + 1) d ticks_per_second (parts_above_zero digits)

-- they are rounded outwards, as little as can be
pub IsFloor-begin_of : (second : ℕ) (digits : List ℕ) → IsFloor
    ((second * parts_of digits + number_of digits) * ticks_per_second) (parts_of digits) (begin_of second digits)
unfolding begin_of
IsFloor-begin_of second digits = IsFloor-floor_of _ (parts_of digits) (parts_above_zero digits)

pub IsCeiling-end_of : (second : ℕ) (digits : List ℕ) → IsCeiling
    ((second * parts_of digits + number_of digits + 1) * ticks_per_second) (parts_of digits) (end_of second digits)
unfolding end_of
IsCeiling-end_of second digits = IsCeiling-ceiling_of _ (parts_of digits) (parts_above_zero digits)

pub begin_le_end : (second : ℕ) (digits : List ℕ) → begin_of second digits ≤ end_of second digits
begin_le_end second digits =
    let first = IsFloor-begin_of second digits in
    let last = IsCeiling-end_of second digits in
    le_of_products (begin_of second digits) (end_of second digits) (parts_of digits) (parts_above_zero digits)
    (omega (arith, first.not_above, last.not_below))
