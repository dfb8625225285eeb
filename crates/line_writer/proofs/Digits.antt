-- How many digits a number of each width has at most.
use Rattle.line_writer.proofs.Common.{◌≡◌, ℕ, ◌+◌, ◌/◌, ◌%◌, ◌^◌, ◌<◌, ◌≤◌, ◌∷◌, ◌++◌, List, length, arith, ap, ◌∙◌, append_assoc, length-append, length-decimal-le, length-decimal-le_wide, decimal_step_wide, decimal}

pub digits_of_8_bits : (n : ℕ) → n < 2 ^ 8 → length (decimal n) ≤ 3
digits_of_8_bits n h = length-decimal-le 3 n (omega arith) (omega arith) (omega arith)

pub digits_of_16_bits : (n : ℕ) → n < 2 ^ 16 → length (decimal n) ≤ 5
digits_of_16_bits n h = length-decimal-le 5 n (omega arith) (omega arith) (omega arith)

pub digits_of_32_bits : (n : ℕ) → n < 2 ^ 32 → length (decimal n) ≤ 10
digits_of_32_bits n h = length-decimal-le 10 n (omega arith) (omega arith) (omega arith)

pub digits_of_64_bits : (n : ℕ) → n < 2 ^ 64 → length (decimal n) ≤ 20
digits_of_64_bits n h = length-decimal-le 20 n (omega arith) (omega arith) (omega arith)

pub digits_of_128_bits : (n : ℕ) → n < 2 ^ 128 → length (decimal n) ≤ 39
digits_of_128_bits n h = length-decimal-le_wide 39 n (omega arith) (omega arith) (omega arith)

-- the last digit of a number, moved to the text after it
pub last_digit : (n : ℕ) (text : List ℕ) → 10 ≤ n → n < 2 ^ 128 →
    decimal (n / 10) ++ ((48 + n % 10) ∷ text) ≡ decimal n ++ text
last_digit n text wide fits = rw (decimal_step_wide n wide (omega arith), append_assoc)

pub one_digit_more : (n : ℕ) → 10 ≤ n → n < 2 ^ 128 → length (decimal n) ≡ length (decimal (n / 10)) + 1
one_digit_more n wide fits = ap length (decimal_step_wide n wide (omega arith)) ∙ length-append _ _
