-- The table of all bytes' digits.
use Rattle.line_writer.proofs.Common.{◌≡◌, ℕ, ◌+◌, ◌-◌, ◌*◌, ◌/◌, ◌%◌, ◌^◌, ◌<◌, List, [], ◌∷◌, refl, length, get_or, drop, arith, drop-cons, add-one, encode_with, encode_lower, lower_digits}
use Rattle.line_writer.proofs.Tables.{agrees_at}
use Rattle.line_writer.specs.declared.hexadecimal.TheConstants.{PAIRS}

-- the digits of a byte, and those of the table
abbrev high_digit : ℕ → ℕ
high_digit b = get_or lower_digits (b / 16) 0

abbrev low_digit : ℕ → ℕ
low_digit b = get_or lower_digits (b % 16) 0

abbrev digit_at : ℕ → ℕ
digit_at i = get_or PAIRS i 0

-- the byte at each place of the table
abbrev place : ℕ → ℕ
place i = get_or lower_digits (i / 2 / 16 ^ (1 - i % 2) % 16) 0

digit_in : (b i k : ℕ) → b < 256 → k < 2 → i ≡ b * 2 + k → digit_at i ≡ get_or lower_digits (b / 16 ^ (1 - k) % 16) 0
digit_in b i k h few at =
    let a : i / 2 ≡ b = omega arith in
    let e : i % 2 ≡ k = omega arith in
    let within : i < 512 = omega arith in
    rw (agrees_at place 0 PAIRS i i tt within (omega arith), a, e) refl

-- the two digits of a byte
pub pair_at : (b : ℕ) → b < 256 → (digit_at (b * 2) ≡ high_digit b) × (digit_at (b * 2 + 1) ≡ low_digit b)
pair_at b h =
    let high : b / 16 % 16 ≡ b / 16 = omega arith in
    let low : b / 1 % 16 ≡ b % 16 = omega arith in (
      rw (digit_in b (b * 2) 0 h (omega arith) (omega arith), high) refl,
      rw (digit_in b (b * 2 + 1) 1 h (omega arith) (omega arith), low) refl,
    )

-- one byte more of a text in hexadecimal
pub encode_at : (bytes : List ℕ) (k : ℕ) → k < length bytes →
    encode_lower (drop k bytes)
    ≡ high_digit (get_or bytes k 0) ∷ low_digit (get_or bytes k 0) ∷ encode_lower (drop (k + 1) bytes)
unfolding encode_with
encode_at bytes k h = rw (add-one, drop-cons bytes k 0 h)

pub encode_none : encode_lower [] ≡ []
unfolding encode_with
encode_none = refl
